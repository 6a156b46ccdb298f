-- What a poll of a stream of parts gives.
use Rattle.std.specs.Prelude.{◌≡◌, ℕ, ◌+◌, ◌<◌, ◌≤◌, List, length, Result, Ok, Err, Option, None}
use Rattle.std.specs.Prelude.{Some}
use Rattle.std.specs.Prelude.{IfSome, ⊤}
use Rattle.std.specs.Option.{option_map}
use Rattle.web_texts.specs.Counts.{Rose}
use Rattle.web_request.specs.Feed.{Feed}
use Rattle.web_request.specs.declared.source.Mark.{Mark}
use Rattle.web_body.specs.Collector.{StallsNext}
use Rattle.web_body.specs.Payload.{KeepsPayload, payload_feed}
use Rattle.web_body.specs.PollSteps.{NeverNoMemory, OnPending, UnlessNoMemory}
use Rattle.web_multipart_parts.specs.Settled.{IsSettled}
use Rattle.web_multipart_stream.specs.PartTurns.{NoPieceNext}
use Rattle.web_body.specs.declared.poll.Step.{Step}
use Rattle.web_body.specs.declared.poll.Step.TheVariants as step
use Rattle.web_lines.specs.LastPieces.{LastTaken}
use Rattle.web_multipart_parts.specs.PartReading.{parts_left, wait_size}
use Rattle.web_multipart_parts.specs.declared.part.Part.{Part}
use Rattle.web_multipart_stream.specs.PartSchedules.{Closed, Failed, Schedule, ended, one_later}
use Rattle.web_multipart_stream.specs.PartSchedules.{part_due, schedule}
use Rattle.web_multipart_stream.specs.MultipartErrors.{IfIo}
use Rattle.web_multipart_stream.specs.StreamViews.{StreamView}
use Rattle.web_multipart_stream.specs.declared.error.MultipartError.{MultipartError}
use Rattle.web_multipart_stream.specs.declared.stream.StreamState.{StreamState}
use Rattle.web_multipart_stream.specs.declared.stream.StreamState.TheVariants.{Over, Reading}
use Rattle.web_multipart_stream.specs.declared.stream.StreamState.TheVariants.{Refused}

abbrev pub Answer : Type 0
Answer = Result Part MultipartError

abbrev pub IsReading : StreamState → Type 0
IsReading (Refused error) = ⊥
IsReading Reading = ⊤
IsReading Over = ⊥

abbrev pub schedule_at : {S : Type 0} → (S → Feed) → StreamState → StreamView S → Option Schedule
schedule_at feed (Refused error) s = Some (ended (Failed error))
schedule_at feed Reading s = option_map (schedule s.reader) (payload_feed feed s.payload).marks
schedule_at feed Over s = Some (ended Closed)

-- what is due, where the source states its marks or is not asked
abbrev pub schedule_of : {S : Type 0} → (S → Feed) → StreamView S → Option Schedule
schedule_of feed s = schedule_at feed s.progress s

-- what a poll says of what was due, and of what is due then
abbrev pub PollGives : Option Schedule → Step (Option Answer) → Option Schedule → Type 0
PollGives old step.Pending new = old ≡ option_map one_later new
PollGives old (step.Ready None) new =
    IfSome old (λ s. s ≡ ended Closed) × (new ≡ Some (ended Closed))
PollGives old (step.Ready (Some (Ok part))) new = old ≡ option_map (part_due part) new
PollGives old (step.Ready (Some (Err error))) new =
    IfSome old (λ s. s ≡ ended (Failed error)) × (new ≡ Some (ended Closed))
PollGives old step.NoMemory new = new ≡ Some (ended Closed)

-- the end, an error and want of memory end it
abbrev pub progress_after : StreamState → Step (Option Answer) → StreamState
progress_after p step.Pending = p
progress_after p (step.Ready None) = Over
progress_after p (step.Ready (Some (Ok part))) = p
progress_after p (step.Ready (Some (Err error))) = Over
progress_after p step.NoMemory = Over

-- the result is a fault of the payload
abbrev pub OnFault : Step (Option Answer) → Type 0 → Type 0
OnFault step.Pending P = ⊤
OnFault (step.Ready None) P = ⊤
OnFault (step.Ready (Some (Ok part))) P = ⊤
OnFault (step.Ready (Some (Err error))) P = IfIo error P
OnFault step.NoMemory P = ⊤

abbrev pub parts_given : Step (Option Answer) → ℕ
parts_given step.Pending = 0
parts_given (step.Ready None) = 0
parts_given (step.Ready (Some (Ok part))) = 1
parts_given (step.Ready (Some (Err error))) = 0
parts_given step.NoMemory = 0

-- it stalled, or the stall is still next
abbrev pub KeepsStall : {T : Type 0} → Step T → Option (List Mark) → Option (List Mark) → Type 0
KeepsStall step.Pending old new = ⊤
KeepsStall (step.Ready answer) old new = new ≡ old
KeepsStall step.NoMemory old new = new ≡ old

-- a poll of a stream that reads, by its result
pub record ReadsPart {S : Type 0} (feed : S → Feed) (old : StreamView S)
    (s : Step (Option Answer)) (new : StreamView S) : Type 0 where
  pub gives : PollGives (schedule_of feed old) s (schedule_of feed new)
  pub progress : new.progress ≡ progress_after old.progress s
  pub form : new.reader.form ≡ old.reader.form
  pub payload : KeepsPayload feed old.payload new.payload
  pub pending : OnPending s
      (Rose (payload_feed feed old.payload).stalls (payload_feed feed new.payload).stalls)
  pub fault : OnFault s
      (Rose (payload_feed feed old.payload).faults (payload_feed feed new.payload).faults)
  pub lacked : UnlessNoMemory s
      ((payload_feed feed new.payload).lacked ≡ (payload_feed feed old.payload).lacked)
  pub stalled : StallsNext (payload_feed feed old.payload).marks
      → KeepsStall s (payload_feed feed old.payload).marks (payload_feed feed new.payload).marks
  pub settled : OnPending s (IsSettled new.reader)
  pub memory : IsSettled old.reader → NoPieceNext (payload_feed feed old.payload).marks
      → NeverNoMemory s
  pub fewer : parts_given s + parts_left new.reader ≤ parts_left old.reader
  pub within : length new.reader.came < wait_size new.reader.form + new.last
  pub last : LastTaken
      (payload_feed feed old.payload).marks old.last (payload_feed feed new.payload).marks new.last
