-- A reader of parts as contracts see it, and what a call of it gives.
use Rattle.std.specs.Prelude.{◌≡◌, ℕ, ◌+◌, ◌<◌, ◌≤◌, List, [], ◌++◌, length, ⊤}
use Rattle.std.specs.List.{AllByRecursion}
use Rattle.web_multipart_parts.specs.Parts.{Closes, CutOff, Ending, Fails, Form, Found, Parts}
use Rattle.web_multipart_parts.specs.Parts.{at_boundary}
use Rattle.web_multipart_parts.specs.Parts.{at_content, at_head, at_opening, behind, delimiter_of}
use Rattle.web_multipart_parts.specs.Parts.{no_part}
use Rattle.web_multipart_parts.specs.Parts.{part_then}
use Rattle.web_multipart_parts.specs.declared.part.Part.{Part}
use Rattle.web_multipart_parts.specs.declared.part_machine.PartState.{PartState}
use Rattle.web_multipart_parts.specs.declared.part_machine.PartState.TheVariants as place
use Rattle.web_multipart_parts.specs.declared.part_machine.PartStep.{PartStep}
use Rattle.web_multipart_parts.specs.declared.part_machine.PartStep.TheVariants as step

-- the parts of the bytes from a position on
abbrev pub parts_at : Form → PartState → ℕ → List ℕ → Parts
parts_at form place.Opening left bytes = at_opening form left bytes
parts_at form place.Boundary left bytes = at_boundary form left bytes
parts_at form place.Head left bytes = at_head form (at_boundary form left) bytes
parts_at form (place.Content head) left bytes =
    at_content form (at_boundary form left) head bytes

pub record Reader : Type 0 where
  pub form : Form
  pub place : PartState
  -- how many parts may still begin
  pub left : ℕ
  -- the bytes that came and are not read yet
  pub came : List ℕ

-- the reader of a body of this boundary, whose parts have at most so many bytes each, before any
-- byte came
abbrev pub new_reader : List ℕ → ℕ → Reader
new_reader boundary limit = record {
  form = record { delimiter = delimiter_of boundary; limit = limit };
  place = place.Opening;
  left = 64;
  came = [];
}

-- one part has begun and was not given yet
abbrev pub begun : PartState → ℕ
begun place.Opening = 0
begun place.Boundary = 0
begun place.Head = 1
begun (place.Content head) = 1

-- how many parts a reader may still give
abbrev pub parts_left : Reader → ℕ
parts_left r = begun r.place + r.left

-- the parts and their end, where these bytes follow those that came
abbrev pub parts_with : Reader → List ℕ → Parts
parts_with r more = parts_at r.form r.place r.left (r.came ++ more)

-- after n bytes the reader reads on as another
pub record GoesOn (old new : Reader) : Type 0 where
  pub form : new.form ≡ old.form
  pub fewer : parts_left new ≤ parts_left old
  pub read : ℕ
  pub size : length old.came ≡ read + length new.came
  pub parts : (more : List ℕ) → parts_with old more ≡ behind read (parts_with new more)

-- after n bytes there is a part, and then what another reader gives
pub record GivesPart (old : Reader) (part : Part) (new : Reader) : Type 0 where
  pub form : new.form ≡ old.form
  pub fewer : parts_left new < parts_left old
  pub read : ℕ
  pub some : 0 < read
  pub size : length old.came ≡ read + length new.came
  pub parts : (more : List ℕ)
      → parts_with old more ≡ part_then read part (parts_with new more)

-- within the bytes that came it closes, or fails
pub record GivesEnd (old : Reader) (ending : ℕ → Ending) : Type 0 where
  pub read : ℕ
  pub within : read ≤ length old.came
  pub parts : (more : List ℕ) → parts_with old more ≡ no_part (ending read)

-- a part, or the end, is known only after more bytes than these

abbrev pub IsLaterFound : ℕ → Found → Type 0
IsLaterFound n f = n < f.known

abbrev pub IsLaterEnding : ℕ → Ending → Type 0
IsLaterEnding n (Closes k) = n < k
IsLaterEnding n (Fails k error) = n < k
IsLaterEnding n CutOff = ⊤

pub record IsLater (n : ℕ) (p : Parts) : Type 0 where
  pub found : AllByRecursion (IsLaterFound n) p.found
  pub ending : IsLaterEnding n p.ending

-- more bytes than a reader holds when it waits for another piece
abbrev pub wait_size : Form → ℕ
wait_size form = form.limit + 4096 + length form.delimiter + 4

-- what came shows nothing, and is short
pub record Waits (r : Reader) : Type 0 where
  pub later : (more : List ℕ) → IsLater (length r.came) (parts_with r more)
  pub cut_off : parts_with r [] ≡ no_part CutOff
  pub short : length r.came < wait_size r.form

abbrev pub StepGives : Reader → PartStep → Reader → Type 0
StepGives old step.More new = GoesOn old new × Waits new
StepGives old (step.Part part) new = GivesPart old part new
StepGives old step.Closed new = GivesEnd old Closes
StepGives old (step.Failed error) new = GivesEnd old (λ n. Fails n error)
StepGives old step.NoMemory new = ⊤

-- whatever it gave, the form stays, and no more is held and due than before
abbrev pub Keeps : Reader → Reader → Type 0
Keeps old new =
    (new.form ≡ old.form)
    × (length new.came ≤ length old.came)
    × (parts_left new ≤ parts_left old)

-- how many places there are still before a part is given
abbrev pub rank : PartState → ℕ
rank place.Opening = 3
rank place.Boundary = 2
rank place.Head = 1
rank (place.Content head) = 0
