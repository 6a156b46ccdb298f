-- The parts of a form do not depend on how its body is cut.
use Rattle.std.proofs.Common.{◌≡◌, ℕ, Bool, true, false, List, [], refl, ap, ◌∙◌, inl, inr}
use Rattle.std.specs.Prelude.{Option, None, Some}
use Rattle.http_header.specs.FieldValue.{FieldValue}
use Rattle.http_header.specs.HeaderMap.{Entries}
use Rattle.web_request.specs.declared.source.Mark.{Mark}
use Rattle.web_body.specs.Cuttings.{SameBody}
use Rattle.web_extract.specs.FirstTaker.{AllOrNone, LeavesAllOrNone}
use Rattle.web_multipart.specs.Collections.{collection, result_by, result_of}
use Rattle.web_multipart.specs.MultipartArgument.{MeansMultipart, multipart_rest, multipart_result}
use Rattle.web_multipart_parts.specs.PartReading.{new_reader}
use Rattle.web_multipart_stream.specs.FormBoundaries.{boundary_of}
use Rattle.web_multipart_stream.specs.PartSchedules.{Schedule}
use Rattle.web_multipart_stream.specs.ScheduleLaws.{SameParts}
use Rattle.web_multipart_stream.specs.StreamViews.{body_schedule, due_by, is_coded, marks_left}
use Rattle.web_multipart_stream.proofs.ScheduleLemmas.{same_parts}
use Rattle.web_cutting.specs.CutFree.{CutFree}

due_same : (boundary : Option (List ℕ)) (coded : Bool) (limit : ℕ) (m n : List Mark) → SameBody m n → SameParts (due_by boundary coded limit m) (due_by boundary coded limit n)
due_same None coded limit m n same = record { parts = refl; outcome = refl }
due_same (Some boundary) true limit m n same = record { parts = refl; outcome = refl }
due_same (Some boundary) false limit m n same = same_parts (new_reader boundary limit) m n same

result_same : (s t : Schedule) → SameParts s t → result_of (collection [] s) ≡ result_of (collection [] t)
result_same s t same = ap (λ parts. result_by parts s.outcome) same.parts ∙ ap (λ outcome. result_by (collection [] t).parts outcome) same.outcome

left_same : (boundary : Option (List ℕ)) (m n : List Mark) → SameBody m n → SameBody (marks_left boundary m) (marks_left boundary n)
left_same None m n same = same
left_same (Some boundary) m n same = record { bytes = refl; ending = refl }

left_all : (boundary : Option (List ℕ)) (m left : List Mark) → left ≡ marks_left boundary m → AllOrNone m left
left_all None m left is = inl is
left_all (Some boundary) m left is = inr is

module _ (limit : ℕ) (headers : Entries FieldValue) where
  pub parts_cut : CutFree (MeansMultipart limit headers)
  parts_cut m n rest d x same h =
      let kept : SameBody rest (multipart_rest limit headers n) = rw h.0 (left_same (boundary_of headers) m n same) in
      let due = due_same (boundary_of headers) (is_coded headers) limit m n same in (
        multipart_rest limit headers n,
        (multipart_result limit headers n).delay,
        (refl, refl, h.2 ∙ result_same (body_schedule headers limit m) (body_schedule headers limit n) due),
        kept,
      )

  pub parts_leave : LeavesAllOrNone (MeansMultipart limit headers)
  parts_leave m left n x h = left_all (boundary_of headers) m left h.0
