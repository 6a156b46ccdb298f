-- A reader that has read all that its bytes show.
use Rattle.std.specs.Prelude.{ℕ, List, drop, Option, None, Some, ⊤}
use Rattle.web_multipart_parts.specs.Parts.{Form}
use Rattle.web_multipart_parts.specs.PartReading.{Reader}
use Rattle.web_multipart_parts.specs.PartSteps.{BoundaryGives, ContentGives, HeadGives}
use Rattle.web_multipart_parts.specs.PartSteps.{OpeningGives}
use Rattle.web_multipart_parts.specs.declared.part_machine.BoundaryStep.TheVariants as boundary
use Rattle.web_multipart_parts.specs.declared.part_machine.ContentStep.TheVariants as content
use Rattle.web_multipart_parts.specs.declared.part_machine.HeadStep.TheVariants as head
use Rattle.web_multipart_parts.specs.declared.part_machine.OpeningStep.TheVariants as opening
use Rattle.web_multipart_parts.specs.declared.part_machine.PartState.{PartState}
use Rattle.web_multipart_parts.specs.declared.part_machine.PartState.TheVariants as place
use Rattle.web_multipart_parts.specs.declared.part_machine.PartStep.{PartStep}
use Rattle.web_multipart_parts.specs.declared.part_machine.PartStep.TheVariants as step

-- at its place stands a front of what may stand there
abbrev pub IsSettledAt : Form → PartState → List ℕ → Type 0
IsSettledAt form place.Opening came = OpeningGives (drop 2 form.delimiter) came opening.More
IsSettledAt form place.Boundary came = BoundaryGives came boundary.More
IsSettledAt form place.Head came = HeadGives came head.More
IsSettledAt form (place.Content found) came =
    ContentGives form.delimiter form.limit came content.More

abbrev pub IsSettled : Reader → Type 0
IsSettled r = IsSettledAt r.form r.place r.came

abbrev pub HasMemory : PartStep → Type 0
HasMemory step.More = ⊤
HasMemory (step.Part part) = ⊤
HasMemory step.Closed = ⊤
HasMemory (step.Failed error) = ⊤
HasMemory step.NoMemory = ⊥

-- it gave something other than want of memory
abbrev pub IsQuiet : Option PartStep → Type 0
IsQuiet None = ⊥
IsQuiet (Some s) = HasMemory s

abbrev pub OnMore : PartStep → Type 0 → Type 0
OnMore step.More P = P
OnMore (step.Part part) P = ⊤
OnMore step.Closed P = ⊤
OnMore (step.Failed error) P = ⊤
OnMore step.NoMemory P = ⊤

abbrev pub OnMoreStep : Option PartStep → Type 0 → Type 0
OnMoreStep None P = ⊤
OnMoreStep (Some s) P = OnMore s P
