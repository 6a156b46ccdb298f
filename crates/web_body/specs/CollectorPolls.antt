-- The result of one poll of a collector.
use Rattle.std.specs.Prelude.{◌≡◌, ℕ, ◌+◌, ◌<◌, ◌≤◌, List, length, Option, Result, Ok, Err, ⊤}
use Rattle.std.specs.Prelude.{IfOk}
use Rattle.web_texts.specs.Counts.{Rose}
use Rattle.web_request.specs.declared.source.Mark.{Mark}
use Rattle.web_request.specs.Feed.{Feed}
use Rattle.web_body.specs.declared.payload.Payload.{Payload}
use Rattle.web_body.specs.declared.collecting.Unread.{Unread}
use Rattle.web_body.specs.declared.collecting.Unread.TheVariants.{TooLong, Failed}
use Rattle.web_body.specs.declared.poll.Step.{Step}
use Rattle.web_body.specs.Payload.{payload_feed, bytes_between, KeepsPayload}
use Rattle.web_body.specs.PollSteps.{IfReady, OnPending, Shifts, UnlessNoMemory}
use Rattle.web_body.specs.Collector.{Read, read_of, reading_of, Allows}

abbrev pub IfWhole : {T E : Type 0} → Result T E → Type 0 → Type 0
IfWhole (Ok b) P = P
IfWhole (Err e) P = ⊤

abbrev pub IfTooLong : {T : Type 0} → Result T Unread → Type 0 → Type 0
IfTooLong (Ok b) P = ⊤
IfTooLong (Err (TooLong size)) P = P
IfTooLong (Err Failed) P = ⊤

abbrev pub IfSize : {T : Type 0} → Result T Unread → (ℕ → Type 0) → Type 0
IfSize (Ok b) P = ⊤
IfSize (Err (TooLong size)) P = P size
IfSize (Err Failed) P = ⊤

abbrev pub IfFailed : {T : Type 0} → Result T Unread → Type 0 → Type 0
IfFailed (Ok b) P = ⊤
IfFailed (Err (TooLong size)) P = ⊤
IfFailed (Err Failed) P = P

-- the result is a whole body, a body over the limit, a fault
abbrev pub OnWhole : {T E : Type 0} → Step (Result T E) → Type 0 → Type 0
OnWhole s P = IfReady s (λ x. IfWhole x P)

-- the result is a whole body, of which this holds
abbrev pub OnBody : {T E : Type 0} → Step (Result T E) → (T → Type 0) → Type 0
OnBody s P = IfReady s (λ x. IfOk x P)

abbrev pub OnTooLong : {T : Type 0} → Step (Result T Unread) → Type 0 → Type 0
OnTooLong s P = IfReady s (λ x. IfTooLong x P)

-- the result is a body over the limit, of whose size this holds
abbrev pub OnSize : {T : Type 0} → Step (Result T Unread) → (ℕ → Type 0) → Type 0
OnSize s P = IfReady s (λ x. IfSize x P)

abbrev pub OnFailed : {T : Type 0} → Step (Result T Unread) → Type 0 → Type 0
OnFailed s P = IfReady s (λ x. IfFailed x P)

-- the result is allowed by the reading of the stated marks, and the rest of that reading is left
abbrev pub Collects : ℕ → Option (List Mark) → List ℕ
    → Step Read → Option (List Mark) → List ℕ → Type 0
Collects limit old held s new held_new =
    IfReady s (Allows read_of (reading_of limit old held) 0)
    × Shifts s (Allows read_of (reading_of limit old held))
    (Allows read_of (reading_of limit new held_new))

-- what each result says of the payload's counts, whether or not its marks are stated
pub record PollCounts {S : Type 0} (feed : S → Feed) (limit : ℕ) (old : Payload S) (held : List ℕ)
    (s : Step Read) (new : Payload S) (held_new : List ℕ) : Type 0 where
  pub payload : KeepsPayload feed old new
  pub pending : OnPending s (Rose (payload_feed feed old).stalls (payload_feed feed new).stalls)
  pub grew : OnPending s (length held_new ≡ length held + bytes_between feed old new)
  pub failed : OnFailed s (Rose (payload_feed feed old).faults (payload_feed feed new).faults)
  pub whole_ended : OnWhole s ((payload_feed feed new).answers ≡ 0)
  pub whole_unfailed : OnWhole s ((payload_feed feed new).faults ≡ (payload_feed feed old).faults)
  pub lacked :
      UnlessNoMemory s ((payload_feed feed new).lacked ≡ (payload_feed feed old).lacked)
  pub whole_length : OnBody s (λ b. length b ≡ length held + bytes_between feed old new)
  pub whole_within : OnBody s (λ b. length b ≤ limit)
  pub too_long : OnTooLong s (limit < length held + bytes_between feed old new)
  pub size : OnSize s (λ n. n ≡ length held + bytes_between feed old new)
