-- The parts of a body that comes in pieces, and how it ends.
use Rattle.std.specs.Prelude.{◌≡◌, ℕ, List, [], ◌++◌, map, Option, None, Some}
use Rattle.web_multipart_parts.specs.Parts.{Closes, CutOff, Ending, Fails, Parts, no_part}
use Rattle.web_multipart_parts.specs.PartReading.{Reader, parts_with}
use Rattle.web_multipart_parts.specs.declared.part.Part.{Part}
use Rattle.web_multipart_parts.specs.declared.piece_parts.BodyEnd.{BodyEnd}
use Rattle.web_multipart_parts.specs.declared.piece_parts.BodyEnd.TheVariants as end

abbrev pub end_of : Ending → BodyEnd
end_of (Closes n) = end.Closed
end_of (Fails n error) = end.Failed error
end_of CutOff = end.Unfinished

-- these are the parts, and this is the end
pub record PartsAre (parts : List Part) (ended : BodyEnd) (p : Parts) : Type 0 where
  pub are : parts ≡ map (λ f. f.part) p.found
  pub ends : ended ≡ end_of p.ending

-- after these parts, whatever the reader gives with more bytes is all that is due
pub record SameDue (old : Reader) (old_parts : List Part) (new : Reader) (new_parts : List Part)
    : Type 0 where
  pub are : (more : List ℕ)
      → old_parts ++ map (λ f. f.part) (parts_with old more).found
      ≡ new_parts ++ map (λ f. f.part) (parts_with new more).found
  pub ends : (more : List ℕ)
      → end_of (parts_with old more).ending ≡ end_of (parts_with new more).ending

pub record NothingMore (old : Reader) (old_parts : List Part) (ended : BodyEnd)
    (new_parts : List Part) : Type 0 where
  pub are : (more : List ℕ)
      → old_parts ++ map (λ f. f.part) (parts_with old more).found ≡ new_parts
  pub ends : (more : List ℕ) → end_of (parts_with old more).ending ≡ ended

abbrev pub Drains : Reader → List Part → Option BodyEnd → Reader → List Part → Type 0
Drains old old_parts None new new_parts =
    SameDue old old_parts new new_parts × (parts_with new [] ≡ no_part CutOff)
Drains old old_parts (Some ended) new new_parts = NothingMore old old_parts ended new_parts
