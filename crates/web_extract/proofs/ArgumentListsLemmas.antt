-- One poll of two places of an argument list.
use Rattle.std.proofs.Common.{◌≡◌, ℕ, suc, max, Bool, true, false, ◌&&◌, refl, arith, subst, sym}
use Rattle.std.specs.Prelude.{Result}
use Rattle.web_reply.specs.Replies.{Fault}
use Rattle.web_extract.specs.CollectedResults.{collected2}
use Rattle.web_extract.specs.declared.lists.place.Place.{Place}
use Rattle.web_extract.specs.Place.{HoldsOrWaits, place_comes}
use Rattle.web_extract.specs.ArgumentLists.{Gives, Joins2}

abbrev WhenLater : Bool → ℕ → ℕ → Type 0
WhenLater true n k = (n ≡ 0) × (k ≡ 0)
WhenLater false n k = k ≡ suc n

max_later : (b1 b2 : Bool) → (b1 && b2) ≡ false → (n1 n2 k1 k2 n : ℕ) → WhenLater b1 n1 k1 → WhenLater b2 n2 k2 → n ≡ max n1 n2 → suc n ≡ max k1 k2
max_later true true e n1 n2 k1 k2 n h1 h2 h = absurd cc
max_later true false e n1 n2 k1 k2 n h1 h2 h = omega arith
max_later false true e n1 n2 k1 k2 n h1 h2 h = omega arith
max_later false false e n1 n2 k1 k2 n h1 h2 h = omega arith

-- what may come of a place after a poll might have come before it, at the same poll or one later
module _ {F T E : Type 0} (c : E → Fault → Type 0) (gives : F → ℕ → Result T E → Type 0) where
  later : (old new : Place F T) (has : Bool) → HoldsOrWaits (place_comes c gives) old has new
      → (n : ℕ) (x : Result T Fault) → place_comes c gives new n x → (k : ℕ) × place_comes c gives old k x × WhenLater has n k
  later old new true w n x h =
      let there = subst (λ (p : Place F T). place_comes c gives p n x) w.1 h in
      (0, subst (λ (y : Result T Fault). place_comes c gives old 0 y) (sym there.1) w.2, (there.0, refl))
  later old new false w n x h = (suc n, w n x h, refl)

module _ {F T D G U E : Type 0} (c1 : D → Fault → Type 0) (gives1 : F → ℕ → Result T D → Type 0) (c2 : E → Fault → Type 0) (gives2 : G → ℕ → Result U E → Type 0) where
  pub shifts2 : (old1 new1 : Place F T) (old2 new2 : Place G U) (b1 b2 : Bool)
      → HoldsOrWaits (place_comes c1 gives1) old1 b1 new1 → HoldsOrWaits (place_comes c2 gives2) old2 b2 new2 → (b1 && b2) ≡ false
      → (n : ℕ) (x : Result (T × U) Fault) → Joins2 (place_comes c1 gives1 new1) (place_comes c2 gives2 new2) n x
      → Joins2 (place_comes c1 gives1 old1) (place_comes c2 gives2 old2) (suc n) x
  shifts2 old1 new1 old2 new2 b1 b2 w1 w2 e n x h =
      let k1 = later c1 gives1 old1 new1 b1 w1 h.n1 h.x1 h.first_gives in
      let k2 = later c2 gives2 old2 new2 b2 w2 h.n2 h.x2 h.second_gives in
      record {
        n1 = k1.0;
        x1 = h.x1;
        first_gives = k1.1;
        n2 = k2.0;
        x2 = h.x2;
        second_gives = k2.1;
        delay = max_later b1 b2 e h.n1 h.n2 k1.0 k2.0 n k1.2 k2.2 h.delay;
        result = h.result;
      }

-- both results are there
pub comes2 : {A B : Type 0} (first : Gives A) (second : Gives B) (x1 : Result A Fault) (x2 : Result B Fault) → first 0 x1 → second 0 x2
    → (x : Result (A × B) Fault) → x ≡ collected2 x1 x2 → Joins2 first second 0 x
comes2 first second x1 x2 h1 h2 x is = record {
  n1 = 0;
  x1 = x1;
  first_gives = h1;
  n2 = 0;
  x2 = x2;
  second_gives = h2;
  delay = refl;
  result = is;
}
