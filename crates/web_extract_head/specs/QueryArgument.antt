-- The query as an argument.
use Rattle.std.specs.Prelude.{◌≡◌, ℕ, List, Option, Result, Ok, Err}
use Rattle.web_texts.specs.Pairs.{Pair}
use Rattle.web_request.specs.Head.{Head, head_query}
use Rattle.web_codec.specs.declared.faults.ReadFault.{ReadFault}
use Rattle.web_codec.specs.DecodedForms.{DecodesForm, PairReader, decoded_form}
use Rattle.web_body.specs.declared.errors.query_error.QueryPayloadError.{QueryPayloadError}
use Rattle.web_body.specs.declared.errors.query_error.QueryPayloadError.TheVariants as query
use Rattle.web_reply.specs.Replies.{Fault}
use Rattle.web_extract.specs.Extracts.{Possible}
use Rattle.web_extract.specs.HeadArguments.{immediate}
use Rattle.web_extract.specs.ListResults.{DelayedResult}
use Rattle.web_extract.specs.Refusals.{Handler, RefusedBy, query_fault, refused_by, refused_some}
use Rattle.web_extract_head.specs.ReadArguments.{read_as}
use Rattle.web_extract_head.specs.declared.query_argument.Query.{Query}

abbrev pub as_query : {T : Type 0} → Result T ReadFault → Result (Query T) QueryPayloadError
as_query (Ok v) = Ok record { 0 = v }
as_query (Err e) = Err (query.Deserialize e)

-- what may be read from the text of a query
abbrev pub DecodesQuery : {T : Type 0}
    → PairReader T → List ℕ → Result (Query T) QueryPayloadError → Type 0
DecodesQuery {T} reads text x =
    (y : Result T ReadFault) × DecodesForm reads text y × (x ≡ as_query y)

-- the same where the reader is a function
abbrev pub decoded_query : {T : Type 0}
    → (List Pair → Result T ReadFault) → List ℕ → Result (Query T) QueryPayloadError
decoded_query read text = as_query (decoded_form read text)

-- The errors that a refusal of the reader may have: those of the handler, where there is one, and
-- else its own.
abbrev pub QueryRefused : {H : Type 0}
    → Handler H QueryPayloadError → Option H → Head → ReadFault → Fault → Type 0
QueryRefused refuses handler head e error =
    RefusedBy refuses query_fault handler (query.Deserialize e) head error

pub query_refused_some : {H : Type 0} (refuses : Handler H QueryPayloadError) (handler : Option H)
    (head : Head) (e : ReadFault) → Possible (QueryRefused refuses handler head e)
query_refused_some refuses handler head e =
    refused_some refuses query_fault handler (query.Deserialize e) head

-- what is read of a query, where the reader and the handler are functions
abbrev pub query_result : {T H : Type 0}
    → (List Pair → Result T ReadFault) → (H → QueryPayloadError → Head → Fault) → Option H → Head
    → DelayedResult (Query T)
query_result read answer handler head =
    immediate (read_as (λ v. record { 0 = v })
    (λ e. refused_by answer query_fault handler (query.Deserialize e) head)
    (decoded_form read (head_query head)))
