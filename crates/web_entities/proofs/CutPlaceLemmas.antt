-- A rule cuts where its mode says so, and so where the text in front of a mark is as the mode says.
use Rattle.std.proofs.Common.{◌≡◌, ℕ, zero, suc, ◌+◌, ◌==◌, ◌&&◌, Bool, true, false, List, [], ◌∷◌, take, drop, refl, arith}
use Rattle.std.proofs.lemmas.Bool.Decides.{nat_tests}
use Rattle.std.specs.List.{fold}
use Rattle.web_texts.specs.Pieces.{Rule, ends_piece, pieces}
use Rattle.web_entities.specs.CutPlaces.{CutsBehind, HasNoCut, IsFirstCut}
use Rattle.web_texts.proofs.TestLemmas.{same_byte}

pub tests_same : (a b : ℕ) → a ≡ b → (a == b) ≡ true
tests_same a b e = grind (arith, nat_tests)

pub other_byte : (a b : ℕ) → (a == b) ≡ false → a ≡ b → ⊥
other_byte a b e same = absurd (grind (arith, nat_tests))

-- the mode after each text cuts exactly where the text is such
pub record ModesSay {M : Type 0} (rule : Rule M) (mode : M) (cuts : List ℕ → Type 0) : Type 0 where
  pub yes : (front : List ℕ) → rule.cuts (fold rule.next mode front) ≡ true → cuts front
  pub no : (front : List ℕ) → rule.cuts (fold rule.next mode front) ≡ false → cuts front → ⊥

module _ {M : Type 0} (rule : Rule M) where
  behind : (mode : M) (cuts : List ℕ → Type 0) (b : ℕ) → ModesSay rule mode cuts → ModesSay rule (rule.next mode b) (λ front. cuts (b ∷ front))
  behind mode cuts b say = record { yes = λ front h. say.yes (b ∷ front) h; no = λ front h. say.no (b ∷ front) h }

  goes_on : (mode : M) (cuts : List ℕ → Type 0) (b : ℕ) → ModesSay rule mode cuts → (b ≡ rule.mark → cuts [] → ⊥) → ends_piece rule mode b ≡ false
  goes_on mode cuts b say not_here = by (rule.cuts mode) refl (b == rule.mark) refl
    where
      by : (c : Bool) → rule.cuts mode ≡ c → (e : Bool) → (b == rule.mark) ≡ e → (c && e) ≡ false
      by false is e same = refl
      by true is false same = refl
      by true is true same = absurd (not_here (same_byte b rule.mark same) (say.yes [] is))

  ends_here : (mode : M) (cuts : List ℕ → Type 0) (b : ℕ) → ModesSay rule mode cuts → b ≡ rule.mark → cuts [] → ends_piece rule mode b ≡ true
  ends_here mode cuts b say same holds = by (rule.cuts mode) refl
    where
      by : (c : Bool) → rule.cuts mode ≡ c → (c && (b == rule.mark)) ≡ true
      by false is = absurd (say.no [] is holds)
      by true is = tests_same b rule.mark same

  cut_at : (mode : M) (cuts : List ℕ → Type 0) → ModesSay rule mode cuts → (text : List ℕ) (i : ℕ) → IsFirstCut rule.mark cuts text i
      → pieces rule mode text ≡ take i text ∷ pieces rule rule.start (drop (i + 1) text)
  cut_at mode cuts say [] i at = let inside = at.inside in absurd (omega (arith, inside))
  cut_at mode cuts say (b ∷ rest) zero at = rw (ends_here mode cuts b say at.marked at.cut) refl
  cut_at mode cuts say (b ∷ rest) (suc i) at =
      let inside = at.inside in
      let on = goes_on mode cuts b say (λ same here. at.first 0 (omega arith) same here) in
      let more = cut_at (rule.next mode b) (λ front. cuts (b ∷ front)) (behind mode cuts b say) rest i (record {
        inside = omega (arith, inside);
        marked = at.marked;
        cut = at.cut;
        first = λ j less. at.first (suc j) (omega (arith, less));
      }) in
      let e : suc i + 1 ≡ suc (i + 1) = omega arith in
      rw (on, e, more) refl

  whole_at : (mode : M) (cuts : List ℕ → Type 0) → ModesSay rule mode cuts → (text : List ℕ) → HasNoCut rule.mark cuts text → pieces rule mode text ≡ text ∷ []
  whole_at mode cuts say [] none = refl
  whole_at mode cuts say (b ∷ rest) none =
      let on = goes_on mode cuts b say (λ same here. none 0 (omega arith) same here) in
      let more = whole_at (rule.next mode b) (λ front. cuts (b ∷ front)) (behind mode cuts b say) rest (λ j less. none (suc j) (omega (arith, less))) in
      rw (on, more) refl

  pub cuts_behind : (cuts : List ℕ → Type 0) → ModesSay rule rule.start cuts → CutsBehind rule cuts
  cuts_behind cuts say = record { cut = cut_at rule.start cuts say; whole = whole_at rule.start cuts say }
