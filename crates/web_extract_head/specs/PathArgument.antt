-- The parameters of a path as an argument.
use Rattle.std.specs.Prelude.{ℕ, List, Option, Result, map}
use Rattle.std.specs.Str.Lossy.{utf8_lossy}
use Rattle.percent_encoding.specs.Percent.{percent_decode}
use Rattle.web_texts.specs.Pairs.{Pair}
use Rattle.web_request.specs.Head.{Head}
use Rattle.web_codec.specs.declared.faults.ReadFault.{ReadFault}
use Rattle.web_body.specs.declared.errors.path_error.PathError.{PathError}
use Rattle.web_body.specs.declared.errors.path_error.PathError.TheVariants as path
use Rattle.web_reply.specs.Replies.{Fault}
use Rattle.web_extract.specs.Extracts.{Possible}
use Rattle.web_extract.specs.HeadArguments.{immediate}
use Rattle.web_extract.specs.ListResults.{DelayedResult}
use Rattle.web_extract.specs.Refusals.{Handler, RefusedBy, path_fault, refused_by, refused_some}
use Rattle.web_extract_head.specs.ReadArguments.{read_as}

-- percent-decoded once; bytes that are no UTF-8 are replaced by U+FFFD
abbrev pub decoded_value : List ℕ → List ℕ
decoded_value value = utf8_lossy (percent_decode value)

-- the name stays as it is
abbrev pub decoded_parameter : Pair → Pair
decoded_parameter p = record p { value = decoded_value p.value }

abbrev pub decoded_parameters : List Pair → List Pair
decoded_parameters params = map decoded_parameter params

-- The errors that a refusal of the reader may have: those of the handler, where there is one, and
-- else that of status 404 with the reader's text.
abbrev pub PathRefused : {H : Type 0}
    → Handler H PathError → Option H → Head → ReadFault → Fault → Type 0
PathRefused refuses handler head e error =
    RefusedBy refuses path_fault handler (path.Deserialize e) head error

pub path_refused_some : {H : Type 0} (refuses : Handler H PathError) (handler : Option H)
    (head : Head) (e : ReadFault) → Possible (PathRefused refuses handler head e)
path_refused_some refuses handler head e =
    refused_some refuses path_fault handler (path.Deserialize e) head

-- what is read of a path's parameters, where the reader and the handler are functions
abbrev pub path_result : {T H : Type 0}
    → (List Pair → Result T ReadFault) → (H → PathError → Head → Fault) → Option H → Head
    → List Pair → DelayedResult T
path_result read answer handler head params =
    immediate (read_as (λ v. v)
    (λ e. refused_by answer path_fault handler (path.Deserialize e) head)
    (read (decoded_parameters params)))
