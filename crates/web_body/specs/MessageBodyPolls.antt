-- The result of one poll of the collector of the body of a request.
use Rattle.std.specs.Prelude.{ℕ, List, Result, Ok, Err, ⊤}
use Rattle.web_body.specs.declared.message_body.PayloadError.{PayloadError}
use Rattle.web_body.specs.declared.message_body.PayloadError.TheVariants.{Overflow, UnknownLength}
use Rattle.web_body.specs.declared.message_body.PayloadError.TheVariants.{Io, UnsupportedEncoding}
use Rattle.web_body.specs.declared.poll.Step.{Step}
use Rattle.web_body.specs.declared.poll.Step.TheVariants.{Pending, Ready, NoMemory}
use Rattle.web_body.specs.PollSteps.{IfReady}
use Rattle.web_body.specs.Collector.{Read}
use Rattle.web_body.specs.MessageBody.{payload_answer}

abbrev pub IfOverflow : {T : Type 0} → Result T PayloadError → Type 0 → Type 0
IfOverflow (Ok b) P = ⊤
IfOverflow (Err Overflow) P = P
IfOverflow (Err _) P = ⊤

abbrev pub IfIo : {T : Type 0} → Result T PayloadError → Type 0 → Type 0
IfIo (Ok b) P = ⊤
IfIo (Err Io) P = P
IfIo (Err _) P = ⊤

-- the error is none that the head alone says
abbrev pub NotByHead : {T : Type 0} → Result T PayloadError → Type 0
NotByHead (Ok b) = ⊤
NotByHead (Err Overflow) = ⊤
NotByHead (Err UnknownLength) = ⊥
NotByHead (Err Io) = ⊤
NotByHead (Err UnsupportedEncoding) = ⊥

-- the result is a body over the limit, a fault
abbrev pub OnOverflow : {T : Type 0} → Step (Result T PayloadError) → Type 0 → Type 0
OnOverflow s P = IfReady s (λ x. IfOverflow x P)

abbrev pub OnIo : {T : Type 0} → Step (Result T PayloadError) → Type 0 → Type 0
OnIo s P = IfReady s (λ x. IfIo x P)

-- the same step, with the error of a message body
abbrev pub payload_step : Step Read → Step (Result (List ℕ) PayloadError)
payload_step Pending = Pending
payload_step (Ready x) = Ready (payload_answer x)
payload_step NoMemory = NoMemory
