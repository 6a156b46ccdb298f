-- A typed header as an argument.
use Rattle.std.specs.Prelude.{◌≡◌, ℕ, List, Option, None, Some, Result, Ok, Err, refl}
use Rattle.std.proofs.Common.{inl, inr}
use Rattle.http_header.specs.HeaderMap.{get_all}
use Rattle.web_texts.specs.declared.errors.ParseError.{ParseError}
use Rattle.web_texts.specs.declared.errors.ParseError.TheVariants as refusal
use Rattle.web_codec.specs.Answers.{OrAll}
use Rattle.web_headers.specs.HeaderLaws.{SaysOnly}
use Rattle.web_texts.specs.HeaderTexts.{value_bytes}
use Rattle.web_request.specs.declared.source.Mark.{Mark}
use Rattle.web_request.specs.Request.{Request}
use Rattle.web_reply.specs.Replies.{Fault, fault_of}
use Rattle.web_reply.specs.declared.errors.cause.Cause.TheVariants.{Parse}
use Rattle.web_extract.specs.Extracts.{AllowsSome}
use Rattle.web_extract_head.specs.declared.header_argument.Header.{Header}

-- the values of a name in a request's head, in order
abbrev pub request_values :
    {L D C : Type 0} → List ℕ → Request L D C → List (List ℕ)
request_values name q = value_bytes (get_all q.head.headers name)

-- a value that is said, or the refusal where none is
abbrev pub SaysHeader :
    {T : Type 0} → (Option T → Type 0) → Result (Header T) ParseError → Type 0
SaysHeader says (Ok x) = says (Some x.0)
SaysHeader says (Err e) = says None

-- No mark is taken, and the result comes at the first poll. Where the values are said to say
-- neither a value nor none, every result counts as allowed.
abbrev pub MeansHeader : {T : Type 0}
    → (Option T → Type 0) → List Mark → List Mark → ℕ → Result (Header T) ParseError → Type 0
MeansHeader says m rest n x = (rest ≡ m) × (n ≡ 0) × OrAll (SaysHeader says) x

abbrev pub header_result : {T : Type 0} → Option T → Result (Header T) ParseError
header_result None = Err refusal.Header
header_result (Some value) = Ok record { 0 = value }

-- This is allowed of all marks, at the first poll, which leaves them, and nothing else is.
abbrev pub OnlyResult : {X : Type 0} → (List Mark → List Mark → ℕ → X → Type 0) → X → Type 0
OnlyResult {X} means result = (m : List Mark) → means m m 0 result
    × ((rest : List Mark) (n : ℕ) (x : X) → means m rest n x
    → (rest ≡ m) × (n ≡ 0) × (x ≡ result))

-- Where the values say this only, exactly its result is allowed.
abbrev pub GivesOnly : {T : Type 0} → (Option T → Type 0)
    → (List Mark → List Mark → ℕ → Result (Header T) ParseError → Type 0) → Type 0
GivesOnly {T} says means =
    (said : Option T) → SaysOnly says said → OnlyResult means (header_result said)

-- exactly one result is allowed
abbrev pub GivesOne : {T : Type 0}
    → (List Mark → List Mark → ℕ → Result (Header T) ParseError → Type 0) → Type 0
GivesOne {T} means = (said : Option T) × OnlyResult means (header_result said)

pub header_some :
    {T : Type 0} (says : Option T → Type 0) (m : List Mark) → AllowsSome (MeansHeader says m)
header_some says m none =
    none m 0 (Err refusal.Header) (refl, refl, inr (λ y h. none m 0 y (refl, refl, inl h)))

pub parse_converted : (e : ParseError) → (f : Fault) × (f ≡ fault_of (Parse e))
parse_converted e = (fault_of (Parse e), refl)
