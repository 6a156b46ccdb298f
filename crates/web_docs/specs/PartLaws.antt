-- What follows for the parts of documents.
use Rattle.std.specs.Prelude.{◌≡◌, ℕ, ◌+◌, ◌-◌, List, length, slice_get, Some}
use Rattle.web_entities.specs.declared.ranges.ByteRangeSpec.{ByteRangeSpec}
use Rattle.web_negotiate.specs.SelectedPositions.{AreEnds, Selects}
use Rattle.web_docs.specs.SentPositions.{AreBytesAt}

-- The bytes at the positions that a byte range selects are one list. They are the bytes from its
-- least position to its greatest, each of them in its place.
pub record PartLaw : Type 0 where
  pub one : (spec : ByteRangeSpec) (n : ℕ) (document part other : List ℕ)
      → AreBytesAt (Selects spec n) document part → AreBytesAt (Selects spec n) document other
      → part ≡ other
  pub count : (spec : ByteRangeSpec) (document part : List ℕ) (first last : ℕ)
      → AreEnds (Selects spec (length document)) (Some (first, last))
      → AreBytesAt (Selects spec (length document)) document part
      → first + length part ≡ last + 1
  pub bytes : (spec : ByteRangeSpec) (document part : List ℕ) (first last p : ℕ)
      → AreEnds (Selects spec (length document)) (Some (first, last))
      → AreBytesAt (Selects spec (length document)) document part
      → Selects spec (length document) p
      → slice_get part (p - first) ≡ slice_get document p
