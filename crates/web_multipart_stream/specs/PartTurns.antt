-- What reading on to the next part comes to.
use Rattle.std.specs.Prelude.{◌≡◌, ℕ, ◌+◌, ◌<◌, ◌≤◌, List, [], ◌∷◌, length, Option, None, Some}
use Rattle.std.specs.Prelude.{IfSome, ⊤}
use Rattle.std.specs.Option.{option_map}
use Rattle.web_texts.specs.Counts.{Rose}
use Rattle.web_request.specs.Feed.{Feed}
use Rattle.web_request.specs.declared.source.Mark.{Mark}
use Rattle.web_request.specs.declared.source.Mark.TheVariants.{Piece, Stall, Fault}
use Rattle.web_multipart_parts.specs.Settled.{IsSettled}
use Rattle.web_body.specs.Collector.{StallsNext}
use Rattle.web_body.specs.declared.payload.Payload.{Payload}
use Rattle.web_body.specs.Payload.{KeepsPayload, payload_feed}
use Rattle.web_lines.specs.LastPieces.{LastTaken}
use Rattle.web_multipart_parts.specs.PartReading.{Reader, parts_left, wait_size}
use Rattle.web_multipart_stream.specs.PartSchedules.{Closed, Failed, Schedule, ended, one_later}
use Rattle.web_multipart_stream.specs.PartSchedules.{part_due, schedule}
use Rattle.web_multipart_stream.specs.MultipartErrors.{IfIo}
use Rattle.web_multipart_stream.specs.declared.stream.PartTurn.{PartTurn}
use Rattle.web_multipart_stream.specs.declared.stream.PartTurn.TheVariants as turn

abbrev pub TurnGives : Option Schedule → PartTurn → Option Schedule → Type 0
TurnGives old turn.Pending new = old ≡ option_map one_later new
TurnGives old (turn.Part part) new = old ≡ option_map (part_due part) new
TurnGives old turn.Closed new = IfSome old (λ s. s ≡ ended Closed)
TurnGives old (turn.Failed error) new = IfSome old (λ s. s ≡ ended (Failed error))
TurnGives old turn.NoMemory new = ⊤

abbrev pub OnStall : PartTurn → Type 0 → Type 0
OnStall turn.Pending P = P
OnStall (turn.Part part) P = ⊤
OnStall turn.Closed P = ⊤
OnStall (turn.Failed error) P = ⊤
OnStall turn.NoMemory P = ⊤

abbrev pub OnIo : PartTurn → Type 0 → Type 0
OnIo turn.Pending P = ⊤
OnIo (turn.Part part) P = ⊤
OnIo turn.Closed P = ⊤
OnIo (turn.Failed error) P = IfIo error P
OnIo turn.NoMemory P = ⊤

-- memory was there
abbrev pub UnlessLacking : PartTurn → Type 0 → Type 0
UnlessLacking turn.Pending P = P
UnlessLacking (turn.Part part) P = P
UnlessLacking turn.Closed P = P
UnlessLacking (turn.Failed error) P = P
UnlessLacking turn.NoMemory P = ⊤

-- the marks are stated, and no piece is next
abbrev pub NoPieceNext : Option (List Mark) → Type 0
NoPieceNext None = ⊥
NoPieceNext (Some []) = ⊤
NoPieceNext (Some (Piece b ∷ m)) = ⊥
NoPieceNext (Some (Stall ∷ m)) = ⊤
NoPieceNext (Some (Fault ∷ m)) = ⊤

-- it stalled, or the stall is still next
abbrev pub KeepsStall : PartTurn → Option (List Mark) → Option (List Mark) → Type 0
KeepsStall turn.Pending old new = ⊤
KeepsStall (turn.Part part) old new = new ≡ old
KeepsStall turn.Closed old new = new ≡ old
KeepsStall (turn.Failed error) old new = new ≡ old
KeepsStall turn.NoMemory old new = new ≡ old

abbrev pub HasTurnMemory : PartTurn → Type 0
HasTurnMemory turn.Pending = ⊤
HasTurnMemory (turn.Part part) = ⊤
HasTurnMemory turn.Closed = ⊤
HasTurnMemory (turn.Failed error) = ⊤
HasTurnMemory turn.NoMemory = ⊥

abbrev pub parts_in : PartTurn → ℕ
parts_in turn.Pending = 0
parts_in (turn.Part part) = 1
parts_in turn.Closed = 0
parts_in (turn.Failed error) = 0
parts_in turn.NoMemory = 0

-- from a payload, a reader and the size of the last piece to others
pub record NextPart {S : Type 0} (feed : S → Feed) (p : Payload S) (r : Reader) (n : ℕ)
    (t : PartTurn) (p_new : Payload S) (r_new : Reader) (k : ℕ) : Type 0 where
  pub payload : KeepsPayload feed p p_new
  pub form : r_new.form ≡ r.form
  pub gives : TurnGives (option_map (schedule r) (payload_feed feed p).marks) t
      (option_map (schedule r_new) (payload_feed feed p_new).marks)
  pub small : length r_new.came < wait_size r_new.form + k
  pub fewer : parts_in t + parts_left r_new ≤ parts_left r
  pub rose : OnStall t (Rose (payload_feed feed p).stalls (payload_feed feed p_new).stalls)
  pub failed : OnIo t (Rose (payload_feed feed p).faults (payload_feed feed p_new).faults)
  pub lacked : UnlessLacking t ((payload_feed feed p_new).lacked ≡ (payload_feed feed p).lacked)
  pub stalled : StallsNext (payload_feed feed p).marks
      → KeepsStall t (payload_feed feed p).marks (payload_feed feed p_new).marks
  pub settled : OnStall t (IsSettled r_new)
  pub memory : IsSettled r → NoPieceNext (payload_feed feed p).marks → HasTurnMemory t
  pub last : LastTaken (payload_feed feed p).marks n (payload_feed feed p_new).marks k
