-- The first of the greatest so far.
use Rattle.std.proofs.Common.{◌≡◌, ◌<◌, ◌≤◌, ℕ, ◌+◌, List, length, get_or, Option, None, Some, refl, sym, arith, ap, ◌∙◌, below_more}
use Rattle.std.proofs.lemmas.List.{get_or_default}
use Rattle.web_negotiate.specs.Rankings.{IsFirstGreatest}

-- among the items below i
abbrev Holds : {X : Type 0} → (X → ℕ) → List X → Option ℕ → ℕ → ℕ → Type 0
Holds rank xs None i most = most ≡ 0
Holds {X} rank xs (Some b) i most = (b < i) × (0 < most) × ((d : X) → rank (get_or xs b d) ≡ most) × ((k : ℕ) (d : X) → k < b → rank (get_or xs k d) < most)

pub record SoFar {X : Type 0} (rank : X → ℕ) (xs : List X) (i : ℕ) (best : Option ℕ) (most : ℕ) : Type 0 where
  pub within : i ≤ length xs
  pub all : (k : ℕ) (d : X) → k < i → rank (get_or xs k d) ≤ most
  pub holds : Holds rank xs best i most

pub at_start : {X : Type 0} (rank : X → ℕ) (xs : List X) → SoFar rank xs 0 None 0
at_start rank xs = record { within = omega arith; all = λ k d l. absurd (omega (arith, l)); holds = refl }

pub taken : {X : Type 0} (rank : X → ℕ) (xs : List X) (i : ℕ) (best : Option ℕ) (most : ℕ) (x : X) → i < length xs → x ≡ get_or xs i x → most < rank x
    → SoFar rank xs i best most → SoFar rank xs (i + 1) (Some i) (rank x)
taken {X} rank xs i best most x inside is more so =
    let here : (d : X) → rank (get_or xs i d) ≡ rank x = λ d. ap rank (get_or_default xs i d x inside ∙ sym is) in
    record {
      within = omega (arith, inside);
      all = λ k d l. below_more (λ j. rank (get_or xs j d) ≤ rank x) i (λ j m. omega (arith, so.all j d m, more)) (omega (arith, here d)) k l;
      holds = (omega arith, omega (arith, more), here, λ k d l. omega (arith, so.all k d l, more));
    }

later : {X : Type 0} (rank : X → ℕ) (xs : List X) (best : Option ℕ) (i most : ℕ) → Holds rank xs best i most → Holds rank xs best (i + 1) most
later rank xs None i most h = h
later rank xs (Some b) i most h = (omega (arith, h.0), h.1, h.2, h.3)

pub kept : {X : Type 0} (rank : X → ℕ) (xs : List X) (i : ℕ) (best : Option ℕ) (most : ℕ) (x : X) → i < length xs → x ≡ get_or xs i x → rank x ≤ most
    → SoFar rank xs i best most → SoFar rank xs (i + 1) best most
kept {X} rank xs i best most x inside is less so =
    let here : (d : X) → rank (get_or xs i d) ≡ rank x = λ d. ap rank (get_or_default xs i d x inside ∙ sym is) in
    record {
      within = omega (arith, inside);
      all = λ k d l. below_more (λ j. rank (get_or xs j d) ≤ most) i (λ j m. so.all j d m) (omega (arith, here d, less)) k l;
      holds = later rank xs best i most so.holds;
    }

pub at_end : {X : Type 0} (rank : X → ℕ) (xs : List X) (i : ℕ) (best : Option ℕ) (most : ℕ) → length xs ≤ i → SoFar rank xs i best most → IsFirstGreatest rank xs best
at_end rank xs i None most past so = λ k d l. omega (arith, so.all k d (omega (arith, l, past)), so.holds)
at_end rank xs i (Some b) most past so = record {
  inside = omega (arith, so.holds.0, so.within, past);
  some = λ d. omega (arith, so.holds.1, so.holds.2 d);
  greatest = λ k d l. omega (arith, so.all k d (omega (arith, l, past)), so.holds.2 d);
  first = λ k d l. omega (arith, so.holds.3 k d l, so.holds.2 d);
}
