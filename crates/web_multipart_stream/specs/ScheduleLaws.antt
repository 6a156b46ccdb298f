-- What the steps of a reader, and the marks that are left, mean for what is due.
use Rattle.std.specs.Prelude.{◌≡◌, ℕ, List, [], ◌∷◌, map}
use Rattle.web_request.specs.declared.source.Mark.{Mark}
use Rattle.web_request.specs.declared.source.Mark.TheVariants.{Piece, Stall, Fault}
use Rattle.web_body.specs.declared.message_body.PayloadError.TheVariants.{Io}
use Rattle.web_multipart_parts.specs.Parts.{Closes, Fails}
use Rattle.web_multipart_parts.specs.PartReading.{GivesEnd, GivesPart, GoesOn, Reader, Waits}
use Rattle.web_multipart_parts.specs.declared.part.Part.{Part}
use Rattle.web_multipart_parts.specs.declared.part.PartError.{PartError}
use Rattle.web_multipart_stream.specs.MultipartErrors.{multipart_error}
use Rattle.web_multipart_stream.specs.PartSchedules.{Closed, Failed, Schedule, ended, fed}
use Rattle.web_multipart_stream.specs.PartSchedules.{one_later, part_due, schedule}
use Rattle.web_multipart_stream.specs.declared.error.MultipartError.TheVariants as multipart

pub record ScheduleLaws : Type 0 where
  pub goes : (old new : Reader) (m : List Mark) → GoesOn old new → schedule old m ≡ schedule new m
  pub part : (old : Reader) (p : Part) (new : Reader) (m : List Mark) → GivesPart old p new
      → schedule old m ≡ part_due p (schedule new m)
  pub closes : (old : Reader) (m : List Mark) → GivesEnd old Closes
      → schedule old m ≡ ended Closed
  pub fails : (old : Reader) (error : PartError) (m : List Mark)
      → GivesEnd old (λ n. Fails n error)
      → schedule old m ≡ ended (Failed (multipart_error error))
  pub piece : (r : Reader) (b : List ℕ) (m : List Mark)
      → schedule r (Piece b ∷ m) ≡ schedule (fed r b) m
  pub stall : (r : Reader) (m : List Mark) → Waits r
      → schedule r (Stall ∷ m) ≡ one_later (schedule r m)
  pub fault : (r : Reader) → Waits r
      → schedule r (Fault ∷ []) ≡ ended (Failed (multipart.Payload Io))
  pub none : (r : Reader) → Waits r → schedule r [] ≡ ended (Failed multipart.Grammar)

-- the parts, whenever they come
abbrev pub parts_of_schedule : Schedule → List Part
parts_of_schedule s = map (λ d. d.part) s.parts

-- the same parts, and the same end: only when they come may differ
pub record SameParts (s t : Schedule) : Type 0 where
  pub parts : parts_of_schedule s ≡ parts_of_schedule t
  pub outcome : s.outcome ≡ t.outcome
