-- What does not stand where a reader has settled.
use Rattle.std.proofs.Common.{◌≡◌, ℕ, List, Option, None, Some, arith, subst, sym}
use Rattle.web_multipart_parts.specs.Parts.{Form, empty_line}
use Rattle.web_multipart_parts.specs.Places.{place_of}
use Rattle.web_multipart_parts.specs.PartSteps.{BoundaryGives, ContentGives, HeadGives, OpeningGives}
use Rattle.web_multipart_parts.specs.Settled.{IsSettledAt}
use Rattle.web_multipart_parts.specs.declared.part_head.PartHead.{PartHead}
use Rattle.web_multipart_parts.specs.declared.part_machine.PartState.{PartState}
use Rattle.web_multipart_parts.specs.declared.part_machine.PartState.TheVariants as place
use Rattle.web_multipart_parts.specs.declared.part_machine.BoundaryStep.TheVariants as boundary
use Rattle.web_multipart_parts.specs.declared.part_machine.ContentStep.TheVariants as content
use Rattle.web_multipart_parts.specs.declared.part_machine.HeadStep.TheVariants as head
use Rattle.web_multipart_parts.specs.declared.part_machine.OpeningStep.TheVariants as opening

pub not_opened : (text came : List ℕ) → OpeningGives text came opening.Opened → OpeningGives text came opening.More → ⊥
not_opened text came is more = let a = more.1 in omega (arith, is, a)

pub not_begun : (came : List ℕ) → BoundaryGives came boundary.Begun → BoundaryGives came boundary.More → ⊥
not_begun came is more = let a = is.1 in let b = more.1 in omega (arith, a, b)

pub not_found : (came : List ℕ) (found : PartHead) (n : ℕ) → HeadGives came (head.Head found n) → HeadGives came head.More → ⊥
not_found came found n is more = let a = is.stands in let b = more.0 in cc (a, b)

pub not_whole : (came : List ℕ) → HeadGives came head.NoMemory → HeadGives came head.More → ⊥
not_whole came is more = let a = is.1 in let b = more.0 in cc (a, b)

pub not_filled : (delimiter came : List ℕ) (limit n : ℕ) → ContentGives delimiter limit came (content.Content n) → ContentGives delimiter limit came content.More → ⊥
not_filled delimiter came limit n is more = let a = is.0 in let b = more.0 in cc (a, b)

pub at_boundary : (form : Form) (p : PartState) (came : List ℕ) → p ≡ place.Boundary → BoundaryGives came boundary.More → IsSettledAt form p came
at_boundary form p came is h = subst (λ (q : PartState). IsSettledAt form q came) (sym is) h
