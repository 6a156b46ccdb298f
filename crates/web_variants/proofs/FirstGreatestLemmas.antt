-- The first of the greatest by its place, and as a function of the list.
use Rattle.std.proofs.Common.{◌≡◌, ◌<◌, ◌≤◌, ℕ, zero, suc, Bool, true, false, List, [], ◌∷◌, length, get_or, cond, Option, None, Some, refl, sym, arith, ◌∙◌}
use Rattle.std.specs.Prelude.{⊤, nat_lt}
use Rattle.std.proofs.lemmas.Bool.{cond-true, cond-false, lt-ltb, le-ltb}
use Rattle.web_negotiate.specs.Rankings.{IsFirst, IsFirstGreatest}
use Rattle.web_variants.specs.FirstGreatest.{first_greatest, or_greater}

module _ {X : Type 0} (rank : X → ℕ) where
  pub none_greatest : (xs : List X) → ((k : ℕ) (d : X) → k < length xs → rank (get_or xs k d) ≡ 0) → first_greatest rank xs ≡ None
  none_greatest [] zeros = refl
  none_greatest (x ∷ xs) zeros =
      let rest = none_greatest xs (λ k d l. zeros (suc k) d (omega (arith, l))) in
      let none : rank x ≡ 0 = zeros zero x (omega arith) in
      rw rest (cond-false (nat_lt 0 (rank x)) (Some x) None (le-ltb 0 (rank x) (omega (arith, none))))

  AtMost : ℕ → Option X → Type 0
  AtMost n None = ⊤
  AtMost n (Some y) = rank y ≤ n

  at_most_one : (n : ℕ) (b : Bool) (s t : Option X) → AtMost n s → AtMost n t → AtMost n (cond b s t)
  at_most_one n true s t left right = left
  at_most_one n false s t left right = right

  at_most_step : (n : ℕ) (x : X) (t : Option X) → rank x ≤ n → AtMost n t → AtMost n (or_greater rank x t)
  unfolding AtMost
  at_most_step n x None le rest = at_most_one n (nat_lt 0 (rank x)) (Some x) None le tt
  at_most_step n x (Some y) le rest = at_most_one n (nat_lt (rank x) (rank y)) (Some y) (Some x) rest le

  at_most : (n : ℕ) (xs : List X) → ((k : ℕ) (d : X) → k < length xs → rank (get_or xs k d) ≤ n) → AtMost n (first_greatest rank xs)
  unfolding AtMost
  at_most n [] all = tt
  at_most n (x ∷ xs) all =
      at_most_step n x (first_greatest rank xs) (all zero x (omega arith)) (at_most n xs (λ k d l. all (suc k) d (omega (arith, l))))

  stays : (x : X) (t : Option X) → 0 < rank x → AtMost (rank x) t → or_greater rank x t ≡ Some x
  unfolding AtMost
  stays x None some le = cond-true (nat_lt 0 (rank x)) (Some x) None (lt-ltb 0 (rank x) some)
  stays x (Some y) some le = cond-false (nat_lt (rank x) (rank y)) (Some y) (Some x) (le-ltb (rank x) (rank y) le)

  pub greatest_at : (xs : List X) (i : ℕ) (d : X) → IsFirst rank xs i → first_greatest rank xs ≡ Some (get_or xs i d)
  greatest_at [] i d first = let inside = first.inside in absurd (omega (arith, inside))
  greatest_at (x ∷ xs) zero d first =
      stays x (first_greatest rank xs) (first.some d) (at_most (rank x) xs (λ k e l. first.greatest (suc k) e (omega (arith, l))))
  greatest_at (x ∷ xs) (suc i) d first =
      let inside = first.inside in
      let behind : IsFirst rank xs i = record {
        inside = omega (arith, inside);
        some = λ e. first.some e;
        greatest = λ k e l. first.greatest (suc k) e (omega (arith, l));
        first = λ k e l. first.first (suc k) e (omega (arith, l));
      } in
      let less : rank x < rank (get_or xs i d) = first.first zero d (omega arith) in
      rw (greatest_at xs i d behind) (cond-true (nat_lt (rank x) (rank (get_or xs i d))) (Some (get_or xs i d)) (Some x) (lt-ltb (rank x) (rank (get_or xs i d)) less))

-- by a rank that is the same everywhere
pub same_ranks : {X : Type 0} (f g : X → ℕ) (xs : List X) → ((x : X) → f x ≡ g x) → (r : Option ℕ) → IsFirstGreatest f xs r → IsFirstGreatest g xs r
same_ranks f g xs same None none = λ k d l. sym (same (get_or xs k d)) ∙ none k d l
same_ranks f g xs same (Some i) is = record {
  inside = is.inside;
  some = λ d. omega (arith, same (get_or xs i d), is.some d);
  greatest = λ k d l. omega (arith, same (get_or xs k d), same (get_or xs i d), is.greatest k d l);
  first = λ k d l. omega (arith, same (get_or xs k d), same (get_or xs i d), is.first k d l);
}
