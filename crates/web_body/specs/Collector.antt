-- The collector of a body: the bytes that it holds, the marks that are left to read, and the
-- results that it may still give.
use Rattle.std.specs.Prelude.{◌≡◌, ◌≤◌, ℕ, suc, Bool, false, List, [], ◌∷◌, ◌++◌}
use Rattle.std.specs.Prelude.{Option, None, Some, Result, Ok, Err, ⊤, refl}
use Rattle.std.specs.Option.{option_map}
use Rattle.web_request.specs.declared.source.Mark.{Mark}
use Rattle.web_request.specs.declared.source.Mark.TheVariants.{Piece, Stall, Fault}
use Rattle.web_request.specs.Body.{whole}
use Rattle.web_request.specs.Reading.{Content, Over, Faulty, Whole, Reading, reading}
use Rattle.web_request.specs.Feed.{Feed}
use Rattle.web_body.specs.declared.payload.Payload.{Payload}
use Rattle.web_body.specs.declared.collecting.Unread.{Unread}
use Rattle.web_body.specs.declared.collecting.Unread.TheVariants.{TooLong, Failed}
use Rattle.web_body.specs.Payload.{payload_feed}
use Rattle.web_body.specs.PollSteps.{GivesSome}

pub record Collector (S : Type 0) : Type 0 where
  pub payload : Payload S
  -- the bytes that came, and none once it is finished with a body
  pub held : List ℕ
  pub limit : ℕ
  pub is_finished : Bool

-- a collector that was not polled yet
abbrev pub new_collector : {S : Type 0} → Payload S → ℕ → Collector S
new_collector payload limit = record {
  payload = payload;
  held = [];
  limit = limit;
  is_finished = false;
}

-- the bytes of a body, or why it was not read to its end
abbrev pub Read : Type 0
Read = Result (List ℕ) Unread

abbrev pub read_of : Content → Read
read_of (Over size) = Err (TooLong size)
read_of Faulty = Err Failed
read_of (Whole b) = Ok b

-- the reading of what is held and what is left
abbrev pub reading_of : ℕ → Option (List Mark) → List ℕ → Option Reading
reading_of limit marks held = option_map (λ m. reading limit (whole held ++ m)) marks

-- the answer to the reading after as many stalls as it meets; where it is unknown, all is allowed
abbrev pub Allows : {X : Type 0} → (Content → X) → Option Reading → ℕ → X → Type 0
Allows answer None n x = ⊤
Allows answer (Some r) n x = (n ≡ r.delay) × (x ≡ answer r.content)

abbrev pub collector_reading : {S : Type 0} → (S → Feed) → Collector S → Option Reading
collector_reading feed b = reading_of b.limit (payload_feed feed b.payload).marks b.held

abbrev pub collector_gives : {S : Type 0} → (S → Feed) → Collector S → ℕ → Read → Type 0
collector_gives feed b n x = Allows read_of (collector_reading feed b) n x

pub some_answer : {X : Type 0} (answer : Content → X) (r : Option Reading)
    → (n : ℕ) × (x : X) × Allows answer r n x
some_answer answer None = (0, answer Faulty, tt)
some_answer answer (Some r) = (r.delay, answer r.content, (refl, refl))

pub collector_some : {S : Type 0} (feed : S → Feed) (b : Collector S)
    → GivesSome (collector_gives feed b)
collector_some feed b none =
    let h = some_answer read_of (collector_reading feed b) in none h.0 h.1 h.2

-- where the marks are stated, only the answer to reading them under the limit is allowed
abbrev pub MeansReading : {X : Type 0} → (Content → X) → ℕ → Option (List Mark)
    → (ℕ → X → Type 0) → Type 0
MeansReading answer limit None gives = ⊤
MeansReading {X} answer limit (Some m) gives =
    (n : ℕ) (x : X) → gives n x
    → (n ≡ (reading limit m).delay) × (x ≡ answer ((reading limit m).content))

-- where the marks are stated, a stall is next
abbrev pub StallsNext : Option (List Mark) → Type 0
StallsNext (Some (Stall ∷ m)) = ⊤
StallsNext _ = ⊥

-- how many pieces come before the next stall, fault or end
abbrev pub pieces_next : List Mark → ℕ
pieces_next [] = 0
pieces_next (Piece b ∷ m) = suc (pieces_next m)
pieces_next (Stall ∷ m) = 0
pieces_next (Fault ∷ m) = 0

-- What makes a poll allocate nothing, where the marks are stated: a stall or a fault is next; or
-- nothing is held, and at most one piece comes before the next stall, fault or end.
abbrev pub NeedsNoMemory : Option (List Mark) → List ℕ → Type 0
NeedsNoMemory None held = ⊥
NeedsNoMemory (Some (Stall ∷ m)) held = ⊤
NeedsNoMemory (Some (Fault ∷ m)) held = ⊤
NeedsNoMemory (Some m) held = (held ≡ []) × (pieces_next m ≤ 1)
