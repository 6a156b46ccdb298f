-- Tags with the mark of a weak one, and tags in print.
use Rattle.std.proofs.Common.{◌≡◌, ◌≤◌, ◌+◌, ◌-◌, ℕ, Bool, true, false, List, [], ◌∷◌, ◌++◌, length, get_or, refl, arith, Some, length-append}
use Rattle.std.specs.Prelude.{nat_le}
use Rattle.std.proofs.lemmas.Bool.Decides.{nat_tests}
use Rattle.std.proofs.Math.Seq.{take-append_seam}
use Rattle.std.proofs.lemmas.Grind.{common_steps}
use Rattle.web_entities.specs.EntityTags.{Tag, has_weak_mark, is_tag_text, quoted_tag_of, tag_of, tag_text, weak_mark}

pub marked_at : (text : List ℕ) → has_weak_mark text ≡ true → (2 ≤ length text) × (get_or text 1 0 ≡ 47)
marked_at [] e = absurd (cc)
marked_at (a ∷ []) e = absurd (grind (arith, nat_tests))
marked_at (a ∷ b ∷ rest) e = (omega arith, grind (arith, nat_tests))

-- the last byte, and what stands between
between_text : (tag : List ℕ) → is_tag_text tag ≡ true → quoted_tag_of (34 ∷ tag ++ 34 ∷ []) ≡ Some tag
between_text tag fits =
    let long : nat_le 2 (length (34 ∷ tag ++ 34 ∷ [])) ≡ true = grind (arith, nat_tests, length-append tag (34 ∷ [])) in
    let less : length (34 ∷ tag ++ 34 ∷ []) - 2 ≡ length tag = omega (arith, length-append tag (34 ∷ [])) in
    let place : length (34 ∷ tag ++ 34 ∷ []) - 1 ≡ length tag + 1 = omega (arith, length-append tag (34 ∷ [])) in
    let last : get_or (34 ∷ tag ++ 34 ∷ []) (length tag + 1) 0 ≡ 34 = grind (arith, common_steps) in
    rw (long, less, place, last, take-append_seam tag (34 ∷ []), fits) refl

by_mark : (weak : Bool) (tag : List ℕ) → is_tag_text tag ≡ true → tag_of (weak_mark weak ++ 34 ∷ tag ++ 34 ∷ []) ≡ Some (record { weak = weak; tag = tag })
by_mark true tag fits = rw (between_text tag fits) refl
by_mark false tag fits = rw (between_text tag fits) refl

pub tag_reads_back : (t : Tag) → is_tag_text t.tag ≡ true → tag_of (tag_text t) ≡ Some t
tag_reads_back t fits = by_mark t.weak t.tag fits
