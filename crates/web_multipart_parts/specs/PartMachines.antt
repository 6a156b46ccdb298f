-- What a machine that reads parts holds.
use Rattle.std.specs.Prelude.{ℕ, ◌<◌, ◌≤◌, ◌^◌, List, length, Option, None, Some, ⊤}
use Rattle.web_multipart_parts.specs.Places.{IsSearched}
use Rattle.web_multipart_parts.specs.Parts.{Form, empty_line}
use Rattle.web_multipart_parts.specs.PartReading.{GoesOn, Reader, StepGives, rank}
use Rattle.web_multipart_parts.specs.declared.part_machine.PartMachine.{PartMachine}
use Rattle.web_multipart_parts.specs.declared.part_machine.PartState.{PartState}
use Rattle.web_multipart_parts.specs.declared.part_machine.PartState.TheVariants as place
use Rattle.web_multipart_parts.specs.declared.part_machine.PartStep.{PartStep}

abbrev pub form_of : PartMachine → Form
form_of m = record { delimiter = m.delimiter.items; limit = m.limit }

-- the reader that a machine is, at this place
abbrev pub reader_at : PartState → PartMachine → Reader
reader_at place m =
    record { form = form_of m; place = place; left = m.left; came = m.held.items }

abbrev pub reader_of : PartMachine → Reader
reader_of m = reader_at m.place m

-- what is searched for at a place does not begin before so many bytes
abbrev pub SearchedAt : Form → PartState → List ℕ → ℕ → Type 0
SearchedAt form place.Opening came n = ⊤
SearchedAt form place.Boundary came n = ⊤
SearchedAt form place.Head came n = IsSearched empty_line came n
SearchedAt form (place.Content head) came n = IsSearched form.delimiter came n

pub record IsMachineAt (place : PartState) (m : PartMachine) : Type 0 where
  pub delimiter : 4 ≤ length m.delimiter.items
  pub limit : m.limit ≤ 2 ^ 62
  pub searched : SearchedAt (form_of m) place m.held.items m.searched

abbrev pub IsMachine : PartMachine → Type 0
IsMachine m = IsMachineAt m.place m

-- it read on at another place, or gave something
abbrev pub Tells : Reader → Option PartStep → PartMachine → Type 0
Tells old None new = GoesOn old (reader_of new) × (rank new.place < rank old.place)
Tells old (Some step) new = StepGives old step (reader_of new)
