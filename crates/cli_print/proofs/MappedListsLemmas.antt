-- Lists that are seen through a function.
use Rattle.std.proofs.Common.{◌≡◌, ◌<◌, ℕ, ◌+◌, List, ◌++◌, length, map, take, get_or, arith, sym, ap, ◌∙◌}
use Rattle.std.specs.List.{flat_map, enumerate_from}
use Rattle.std.proofs.lemmas.List.{take-map, get_or-map, length-map}
use Rattle.web_texts.proofs.NumberedListLemmas.{numbered_more}

-- one more member of a numbered list
pub mapped_more : {X Y Z : Type 0} (g : X → Y) (f : ℕ × Y → List Z) (xs : List X) (i : ℕ) (x : X) → i < length xs → x ≡ get_or xs i x
    → flat_map f (enumerate_from 0 (map g (take (i + 1) xs))) ≡ flat_map f (enumerate_from 0 (map g (take i xs))) ++ f (i, g x)
mapped_more g f xs i x small is =
    let within : i < length (map g xs) = omega (arith, length-map xs g, small) in
    let same : g x ≡ get_or (map g xs) i (g x) = ap g is ∙ sym (get_or-map g xs i x (g x) small) in
    rw (← take-map g (i + 1) xs, ← take-map g i xs) (numbered_more f (map g xs) i (g x) within same)
