-- A reader of lines: how it is made, and what a poll of it gives.
use Rattle.std.specs.Prelude.{◌≡◌, ℕ, ◌+◌, ◌*◌, ◌<◌, ◌≤◌, List, [], length, Option, None, Some}
use Rattle.std.specs.Prelude.{Result, Ok, Err, IfSome, ⊤}
use Rattle.std.specs.Option.{option_map}
use Rattle.web_texts.specs.Counts.{Rose}
use Rattle.web_texts.specs.declared.errors.ContentTypeError.{ContentTypeError}
use Rattle.web_request.specs.Feed.{Feed}
use Rattle.web_body.specs.declared.message_body.PayloadError.TheVariants.{Io}
use Rattle.web_body.specs.declared.errors.lines_error.ReadlinesError.{ReadlinesError}
use Rattle.web_body.specs.declared.errors.lines_error.ReadlinesError.TheVariants as lines
use Rattle.web_body.specs.declared.payload.Payload.{Payload}
use Rattle.web_body.specs.declared.payload.Payload.TheVariants as kind
use Rattle.web_body.specs.declared.poll.Step.{Step}
use Rattle.web_body.specs.declared.poll.Step.TheVariants as step
use Rattle.web_body.specs.PollSteps.{IsPending, NeverNoMemory, OnPending, UnlessNoMemory}
use Rattle.web_body.specs.Collector.{StallsNext}
use Rattle.web_body.specs.MessageBody.{default_limit}
use Rattle.web_body.specs.Payload.{KeepsPayload, bytes_between, payload_feed}
use Rattle.web_lines.specs.declared.lines_collector.LinesState.{LinesState}
use Rattle.web_lines.specs.declared.lines_collector.LinesState.TheVariants.{Over, Reading, Refused}
use Rattle.web_lines.specs.Lines.{Answer}
use Rattle.web_lines.specs.LastPieces.{LastTaken}
use Rattle.web_lines.specs.LineCuts.{IsUnfinished}
use Rattle.web_lines.specs.LineMemory.{NeedsNoMemory}
use Rattle.web_lines.specs.LineReader.{LineReader}
use Rattle.web_lines.specs.LineSchedules.{Schedule, error_due, line_due, nothing_due, one_later}
use Rattle.web_lines.specs.LineSchedules.{schedule}

-- The payload of a message is taken, unless its content type is refused.
abbrev pub new_reader : {S : Type 0} → Result (Unit {0}) ContentTypeError → Payload S
    → LineReader S
new_reader (Ok done) payload = record {
  payload = payload;
  came = [];
  last = 0;
  limit = default_limit;
  progress = Reading;
}
new_reader (Err error) payload = record {
  payload = kind.None;
  came = [];
  last = 0;
  limit = default_limit;
  progress = Refused error;
}

-- what is left of the message then
abbrev pub taken_from : {M : Type 0} → Result (Unit {0}) ContentTypeError → M → M → M
taken_from (Ok done) without_payload message = without_payload
taken_from (Err error) without_payload message = message

abbrev pub IsOpen : LinesState → Type 0
IsOpen (Refused error) = ⊤
IsOpen Reading = ⊤
IsOpen Over = ⊥

-- no poll has returned anything yet
pub record IsUnpolled {S : Type 0} (r : LineReader S) : Type 0 where
  pub none_came : r.came ≡ []
  pub is_open : IsOpen r.progress

abbrev pub IsReading : LinesState → Type 0
IsReading (Refused error) = ⊥
IsReading Reading = ⊤
IsReading Over = ⊥

-- the message was refused for its content type
abbrev pub OnRefused : LinesState → (ContentTypeError → Type 0) → Type 0
OnRefused (Refused error) P = P error
OnRefused Reading P = ⊤
OnRefused Over P = ⊤

-- what came stays only while it reads
abbrev pub HoldsNothing : LinesState → List ℕ → Type 0
HoldsNothing (Refused error) came = came ≡ []
HoldsNothing Reading came = ⊤
HoldsNothing Over came = came ≡ []

abbrev pub schedule_at : {S : Type 0} → (S → Feed) → LinesState → LineReader S → Option Schedule
schedule_at feed (Refused error) r = Some (error_due (lines.ContentTypeError error))
schedule_at feed Reading r =
    option_map (schedule r.limit r.came) (payload_feed feed r.payload).marks
schedule_at feed Over r = Some nothing_due

-- the answers that are due, where the source states its marks or is not asked
abbrev pub schedule_of : {S : Type 0} → (S → Feed) → LineReader S → Option Schedule
schedule_of feed r = schedule_at feed r.progress r

-- what a poll says of the answers that were due, and of those that are due then
abbrev pub StepGives : Option Schedule → Step (Option Answer) → Option Schedule → Type 0
StepGives old step.Pending new = old ≡ option_map one_later new
StepGives old (step.Ready None) new =
    IfSome old (λ s. s ≡ nothing_due) × (new ≡ Some nothing_due)
StepGives old (step.Ready (Some (Ok line))) new = old ≡ option_map (line_due line) new
StepGives old (step.Ready (Some (Err error))) new =
    IfSome old (λ s. s ≡ error_due error) × (new ≡ Some nothing_due)
StepGives old step.NoMemory new = new ≡ Some nothing_due

-- the end, an error and want of memory end it
abbrev pub progress_after : LinesState → Step (Option Answer) → LinesState
progress_after p step.Pending = p
progress_after p (step.Ready None) = Over
progress_after p (step.Ready (Some (Ok line))) = p
progress_after p (step.Ready (Some (Err error))) = Over
progress_after p step.NoMemory = Over

abbrev pub IfFault : ReadlinesError → Type 0 → Type 0
IfFault lines.EncodingError P = ⊤
IfFault (lines.Payload Io) P = P
IfFault (lines.Payload _) P = ⊤
IfFault lines.LimitOverflow P = ⊤
IfFault (lines.ContentTypeError error) P = ⊤

abbrev pub IfTooLong : ReadlinesError → Type 0 → Type 0
IfTooLong lines.EncodingError P = ⊤
IfTooLong (lines.Payload error) P = ⊤
IfTooLong lines.LimitOverflow P = P
IfTooLong (lines.ContentTypeError error) P = ⊤

abbrev pub OnLineError : Step (Option Answer) → (ReadlinesError → Type 0) → Type 0
OnLineError step.Pending P = ⊤
OnLineError (step.Ready None) P = ⊤
OnLineError (step.Ready (Some (Ok line))) P = ⊤
OnLineError (step.Ready (Some (Err error))) P = P error
OnLineError step.NoMemory P = ⊤

-- the result is a fault of the payload, a line that is too long, the end
abbrev pub OnFault : Step (Option Answer) → Type 0 → Type 0
OnFault s P = OnLineError s (λ error. IfFault error P)

abbrev pub OnTooLong : Step (Option Answer) → Type 0 → Type 0
OnTooLong s P = OnLineError s (λ error. IfTooLong error P)

abbrev pub OnLine : Step (Option Answer) → Type 0 → Type 0
OnLine step.Pending P = ⊤
OnLine (step.Ready None) P = ⊤
OnLine (step.Ready (Some (Ok line))) P = P
OnLine (step.Ready (Some (Err error))) P = ⊤
OnLine step.NoMemory P = ⊤

-- The work that is left, a measure for loops over lines: a result that the payload may still give
-- counts for more than all the bytes that came, which are fewer than 2^64.
abbrev pub work_left : ℕ → List ℕ → ℕ
work_left answers came = answers * 18446744073709551616 + length came

abbrev pub OnEnd : Step (Option Answer) → Type 0 → Type 0
OnEnd step.Pending P = ⊤
OnEnd (step.Ready None) P = P
OnEnd (step.Ready (Some answer)) P = ⊤
OnEnd step.NoMemory P = ⊤

-- The bytes that are left after a result, where so many came before and so many in this poll:
-- those that were not returned, and none after an error, the end and want of memory.
abbrev pub Buffers : Step (Option Answer) → ℕ → ℕ → List ℕ → Type 0
Buffers step.Pending came gave left = length left ≡ came + gave
Buffers (step.Ready None) came gave left = left ≡ []
Buffers (step.Ready (Some (Ok line))) came gave left = length left + length line ≡ came + gave
Buffers (step.Ready (Some (Err error))) came gave left = left ≡ []
Buffers step.NoMemory came gave left = left ≡ []

-- a poll of a reader that reads, by its result
pub record ReadsLine {S : Type 0} (feed : S → Feed) (old : LineReader S) (s : Step (Option Answer))
    (new : LineReader S) : Type 0 where
  pub gives : StepGives (schedule_of feed old) s (schedule_of feed new)
  pub progress : new.progress ≡ progress_after old.progress s
  pub limit : new.limit ≡ old.limit
  pub payload : KeepsPayload feed old.payload new.payload
  pub pending : OnPending s
      (Rose (payload_feed feed old.payload).stalls (payload_feed feed new.payload).stalls)
  pub fault : OnFault s
      (Rose (payload_feed feed old.payload).faults (payload_feed feed new.payload).faults)
  pub too_long : OnTooLong s
      (old.limit < length old.came + bytes_between feed old.payload new.payload)
  pub closer : OnLine s
      (work_left (payload_feed feed new.payload).answers new.came
      < work_left (payload_feed feed old.payload).answers old.came)
  pub ended : OnEnd s ((payload_feed feed new.payload).answers ≡ 0)
  pub unfailed : OnEnd s
      ((payload_feed feed new.payload).faults ≡ (payload_feed feed old.payload).faults)
  pub lacked : UnlessNoMemory s
      ((payload_feed feed new.payload).lacked ≡ (payload_feed feed old.payload).lacked)
  pub buffers : Buffers s (length old.came) (bytes_between feed old.payload new.payload) new.came
  pub dropped : (IsReading new.progress → ⊥) → new.came ≡ []
  pub within : length new.came ≤ new.limit + new.last
  pub last : LastTaken
      (payload_feed feed old.payload).marks old.last (payload_feed feed new.payload).marks new.last
  pub stalled : IsUnfinished old.limit old.came → StallsNext (payload_feed feed old.payload).marks
      → IsPending s
  pub memory : NeedsNoMemory old.limit old.came (payload_feed feed old.payload).marks
      → NeverNoMemory s
