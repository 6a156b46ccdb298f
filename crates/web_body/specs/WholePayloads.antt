-- All bytes of a payload, without a limit and under one.
use Rattle.std.specs.Prelude.{◌≡◌, ◌<◌, ◌^◌, ℕ, List, None, Option, Some, Result, Ok, Err, ⊤}
use Rattle.std.specs.Prelude.{IfErr, IfOk, length}
use Rattle.web_request.specs.declared.source.Mark.{Mark}
use Rattle.web_request.specs.Body.{piece_bytes}
use Rattle.web_request.specs.Feed.{Feed}
use Rattle.web_request.specs.Reading.{Content, Reading, reading_at}
use Rattle.web_body.specs.declared.collecting.Unread.TheVariants.{TooLong, Failed}
use Rattle.web_body.specs.declared.message_body.PayloadError.{PayloadError}
use Rattle.web_body.specs.declared.message_body.PayloadError.TheVariants.{Io}
use Rattle.web_body.specs.declared.poll.Step.{Step}
use Rattle.web_body.specs.declared.poll.Step.TheVariants.{Pending, Ready, NoMemory}
use Rattle.web_body.specs.declared.whole_payload.BodyLimitExceeded.{BodyLimitExceeded}
use Rattle.web_body.specs.PollSteps.{GivesSome, IfReady}
use Rattle.web_body.specs.Collector.{Allows, Collector, Read, collector_reading, read_of}
use Rattle.web_body.specs.Collector.{some_answer}

-- the limit that no body passes, since each has less than 2 ^ 63 bytes
abbrev pub no_limit : ℕ
no_limit = 18446744073709551615

-- what may still come of a collector, as what is answered to its reading
abbrev pub answers_give : {S X : Type 0} → (Content → X) → (S → Feed) → Collector S → ℕ → X → Type 0
answers_give answer feed b n x = Allows answer (collector_reading feed b) n x

pub answers_some : {S X : Type 0} (answer : Content → X) (feed : S → Feed) (b : Collector S)
    → GivesSome (answers_give answer feed b)
answers_some answer feed b none =
    let h = some_answer answer (collector_reading feed b) in none h.0 h.1 h.2

-- reading a body without a limit: the fault at its end, or else all its bytes, after all its stalls
abbrev pub reading_all : List Mark → Reading
reading_all m = reading_at None m

-- Where the marks are stated, and their pieces have less than 2 ^ 63 bytes, only the answer to
-- reading all of them is allowed.
abbrev pub MeansAll : {X : Type 0} → (Content → X) → Option (List Mark) → (ℕ → X → Type 0)
    → Type 0
MeansAll answer None gives = ⊤
MeansAll {X} answer (Some m) gives = length (piece_bytes m) < 2 ^ 63
    → (n : ℕ) (x : X) → gives n x
    → (n ≡ (reading_all m).delay) × (x ≡ answer ((reading_all m).content))

-- the body or the fault, unless the limit is passed
abbrev pub Limited : Type 0
Limited = Result (Result (List ℕ) PayloadError) BodyLimitExceeded

abbrev pub limited_answer : Read → Limited
limited_answer (Ok b) = Ok (Ok b)
limited_answer (Err (TooLong size)) = Err (record {})
limited_answer (Err Failed) = Ok (Err Io)

abbrev pub limited_of : Content → Limited
limited_of content = limited_answer (read_of content)

-- the same step, with what is answered to a body
abbrev pub answered_step : {X : Type 0} → (Read → X) → Step Read → Step X
answered_step answer Pending = Pending
answered_step answer (Ready x) = Ready (answer x)
answered_step answer NoMemory = NoMemory

abbrev pub IfIoAlone : {T : Type 0} → Result T PayloadError → Type 0
IfIoAlone (Ok b) = ⊤
IfIoAlone (Err e) = e ≡ Io

-- where the result is an error, it is a fault
abbrev pub IoAlone : {T : Type 0} → Step (Result T PayloadError) → Type 0
IoAlone s = IfReady s IfIoAlone

-- the limit was passed
abbrev pub OnExceeded : {T E : Type 0} → Step (Result T E) → Type 0 → Type 0
OnExceeded s P = IfReady s (λ x. IfErr x (λ e. P))

-- the limit was not passed
abbrev pub OnWithin : {T E : Type 0} → Step (Result T E) → (T → Type 0) → Type 0
OnWithin s P = IfReady s (λ x. IfOk x P)
