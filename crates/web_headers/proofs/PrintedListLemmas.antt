-- Printed lists, item by item.
use Rattle.std.proofs.Common.{◌≡◌, ◌<◌, ◌+◌, ◌-◌, ◌≤◌, ℕ, List, [], ◌∷◌, ◌++◌, length, take, drop, get_or, refl, sym, arith, ap}
use Rattle.std.proofs.Math.Seq.{take-length}
use Rattle.std.proofs.lemmas.List.{take_more, append-nil}
use Rattle.std.proofs.lemmas.Grind.{flat_map-append}
use Rattle.web_headers.specs.PrintedLists.{comma_joined, later_items}

-- the first item, and the others
pub joined_is : {T : Type 0} (text : T → List ℕ) (x : T) (items : List T) → 1 ≤ length items → x ≡ get_or items 0 x
    → text x ++ later_items text (take (length items - 1) (drop 1 items)) ≡ comma_joined text items
joined_is text x [] some is = absurd (omega (arith, some))
joined_is text x (y ∷ more) some is =
    let others : length (y ∷ more) - 1 ≡ length more = omega arith in
    rw (is, others, take-length more) refl

-- one more
pub later_more : {T : Type 0} (text : T → List ℕ) (items : List T) (i : ℕ) (x : T) → i < length items → x ≡ get_or items i x
    → later_items text (take i items) ++ (44 ∷ 32 ∷ text x) ≡ later_items text (take (i + 1) items)
later_more text items i x inside is =
    rw (take_more items i x inside, ← is, flat_map-append (λ y. 44 ∷ 32 ∷ text y) (take i items) (x ∷ []))
    (ap (λ l. later_items text (take i items) ++ l) (sym (append-nil (44 ∷ 32 ∷ text x))))

-- all of them
pub later_all : {T : Type 0} (text : T → List ℕ) (items : List T) (i : ℕ) → i ≤ length items → length items ≤ i → later_items text (take i items) ≡ later_items text items
later_all text items i inside past =
    let same : i ≡ length items = omega (arith, inside, past) in
    rw (same, take-length items) refl
