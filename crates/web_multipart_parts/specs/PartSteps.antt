-- What the bytes show where an opening, a boundary, a head or a content stands.
use Rattle.std.specs.Prelude.{◌≡◌, ℕ, ◌+◌, ◌<◌, ◌≤◌, List, ◌++◌, length, take, drop, max}
use Rattle.std.specs.Prelude.{None, Some, ⊤}
use Rattle.web_multipart_parts.specs.Places.{place_of}
use Rattle.web_multipart_parts.specs.PartHeads.{crlf, part_head_of}
use Rattle.web_multipart_parts.specs.Parts.{Fails, Form, Parts, at_content, at_head, common_len}
use Rattle.web_multipart_parts.specs.Parts.{empty_line, hyphens, no_part}
use Rattle.web_multipart_parts.specs.declared.part.PartError.{PartError}
use Rattle.web_multipart_parts.specs.declared.part.PartError.TheVariants as part_error
use Rattle.web_multipart_parts.specs.declared.part_head.PartHead.{PartHead}
use Rattle.web_multipart_parts.specs.declared.part_machine.BoundaryStep.{BoundaryStep}
use Rattle.web_multipart_parts.specs.declared.part_machine.BoundaryStep.TheVariants as boundary
use Rattle.web_multipart_parts.specs.declared.part_machine.ContentStep.{ContentStep}
use Rattle.web_multipart_parts.specs.declared.part_machine.ContentStep.TheVariants as content
use Rattle.web_multipart_parts.specs.declared.part_machine.HeadStep.{HeadStep}
use Rattle.web_multipart_parts.specs.declared.part_machine.HeadStep.TheVariants as head
use Rattle.web_multipart_parts.specs.declared.part_machine.OpeningStep.{OpeningStep}
use Rattle.web_multipart_parts.specs.declared.part_machine.OpeningStep.TheVariants as opening

-- the bytes begin with the text, or are a front of it, or differ from it
abbrev pub OpeningGives : List ℕ → List ℕ → OpeningStep → Type 0
OpeningGives text bytes opening.Opened = common_len text bytes ≡ length text
OpeningGives text bytes opening.More =
    (common_len text bytes ≡ length bytes) × (common_len text bytes < length text)
OpeningGives text bytes opening.Wrong =
    (common_len text bytes < length bytes) × (common_len text bytes < length text)

abbrev pub BoundaryGives : List ℕ → BoundaryStep → Type 0
BoundaryGives bytes boundary.Closed = common_len hyphens bytes ≡ 2
BoundaryGives bytes boundary.Begun =
    (common_len hyphens bytes < 2) × (common_len crlf bytes ≡ 2)
BoundaryGives bytes boundary.More =
    (common_len hyphens bytes < 2) × (common_len crlf bytes < 2)
    × (max (common_len hyphens bytes) (common_len crlf bytes) ≡ length bytes)
BoundaryGives bytes boundary.Wrong =
    (common_len hyphens bytes < 2) × (common_len crlf bytes < 2)
    × (max (common_len hyphens bytes) (common_len crlf bytes) < length bytes)

-- whatever follows the bytes, this error stands within them
pub record FailsHead (bytes : List ℕ) (error : PartError) : Type 0 where
  pub known : ℕ
  pub within : known ≤ length bytes
  pub parts : (form : Form) (next : List ℕ → Parts) (more : List ℕ)
      → at_head form next (bytes ++ more) ≡ no_part (Fails known error)

pub record FindsHead (bytes : List ℕ) (found : PartHead) (n : ℕ) : Type 0 where
  pub place : ℕ
  pub stands : place_of empty_line bytes ≡ Some place
  pub size : n ≡ place + 4
  pub short : place ≤ 4094
  pub says : part_head_of (drop 2 (take (place + 4) bytes)) ≡ Some found

abbrev pub HeadGives : List ℕ → HeadStep → Type 0
HeadGives bytes (head.Head found n) = FindsHead bytes found n
HeadGives bytes head.More = (place_of empty_line bytes ≡ None) × (length bytes < 4098)
HeadGives bytes (head.Failed error) = FailsHead bytes error
HeadGives bytes head.NoMemory = (place : ℕ) × (place_of empty_line bytes ≡ Some place)

-- what a head of all these bytes says
abbrev pub ReadsHead : List ℕ → HeadStep → Type 0
ReadsHead text (head.Head found n) =
    (n ≡ length text) × (part_head_of (drop 2 text) ≡ Some found)
ReadsHead text head.More = ⊥
ReadsHead text (head.Failed error) = (error ≡ part_error.Head) × (part_head_of (drop 2 text) ≡ None)
ReadsHead text head.NoMemory = ⊤

abbrev pub ContentGives : List ℕ → ℕ → List ℕ → ContentStep → Type 0
ContentGives delimiter limit bytes (content.Content n) =
    (place_of delimiter bytes ≡ Some n) × (n ≤ limit)
ContentGives delimiter limit bytes content.More =
    (place_of delimiter bytes ≡ None) × (length bytes < limit + length delimiter)
ContentGives delimiter limit bytes content.TooLong =
    (limit + length delimiter ≤ length bytes)
    × ((next : List ℕ → Parts) (found : PartHead) (more : List ℕ)
    → at_content (record { delimiter = delimiter; limit = limit }) next found (bytes ++ more)
    ≡ no_part (Fails (limit + length delimiter) part_error.PartOverflow))
