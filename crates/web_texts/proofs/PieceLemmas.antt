-- Pieces with more put before the first.
use Rattle.std.proofs.Common.{◌≡◌, ◌<◌, ◌≤◌, ℕ, ◌+◌, true, false, List, [], ◌∷◌, ◌++◌, length, take, drop, get_or, cond, refl, ap, sym, ◌∙◌, arith, append_assoc, add-one, drop-cons}
use Rattle.std.specs.List.{onto_first}
use Rattle.std.proofs.lemmas.List.{take_more, append-nil}
use Rattle.std.proofs.Math.Seq.{take-length, drop-length}
use Rattle.web_texts.specs.Pieces.{Rule, pieces, ends_piece, IsFirstPlace}
use Rattle.web_texts.proofs.TestLemmas.{and_right, same_byte}

abbrev pub behind_front : List ℕ → List (List ℕ) → List (List ℕ)
behind_front front [] = front ∷ []
behind_front front (piece ∷ more) = (front ++ piece) ∷ more

-- the first so many bytes end no piece, and leave this mode
pub record IsWithin {M : Type 0} (rule : Rule M) (i : ℕ) (mode : M) (text : List ℕ) : Type 0 where
  pub inside : i ≤ length text
  pub same : behind_front (take i text) (pieces rule mode (drop i text)) ≡ pieces rule rule.start text

onto_more : (front : List ℕ) (b : ℕ) (ps : List (List ℕ)) → behind_front front (onto_first b ps) ≡ behind_front (front ++ b ∷ []) ps
onto_more front b [] = refl
onto_more front b (p ∷ ps) = ap (λ l. l ∷ ps) (sym (append_assoc front (b ∷ []) p))

here : (text : List ℕ) (i : ℕ) → i < length text → drop i text ≡ get_or text i 0 ∷ drop (i + 1) text
here text i inside = rw (add-one, drop-cons text i 0) refl

pub more_within : {M : Type 0} (rule : Rule M) (text : List ℕ) (i : ℕ) (mode : M) → i < length text → ends_piece rule mode (get_or text i 0) ≡ false → IsWithin rule i mode text
    → IsWithin rule (i + 1) (rule.next mode (get_or text i 0)) text
more_within rule text i mode inside goes_on at =
    let now : behind_front (take i text) (pieces rule mode (get_or text i 0 ∷ drop (i + 1) text)) ≡ pieces rule rule.start text = rw (here text i inside) at at.same in
    record {
      inside = omega (arith, inside);
      same = rw (take_more text i 0 inside, ← onto_more (take i text) (get_or text i 0) (pieces rule (rule.next mode (get_or text i 0)) (drop (i + 1) text))) (rw goes_on at now);
    }

pub first_place : {M : Type 0} (rule : Rule M) (text : List ℕ) (i : ℕ) (mode : M) → i < length text → ends_piece rule mode (get_or text i 0) ≡ true → IsWithin rule i mode text → IsFirstPlace rule i text
first_place rule text i mode inside ends at =
    let now : behind_front (take i text) (pieces rule mode (get_or text i 0 ∷ drop (i + 1) text)) ≡ pieces rule rule.start text = rw (here text i inside) at at.same in
    let cut : behind_front (take i text) ([] ∷ pieces rule rule.start (drop (i + 1) text)) ≡ pieces rule rule.start text = rw ends at now in
    record {
      inside = inside;
      marked = same_byte _ _ (and_right (rule.cuts mode) _ ends);
      cut = sym cut ∙ ap (λ l. l ∷ pieces rule rule.start (drop (i + 1) text)) (append-nil (take i text));
    }

pub no_place : {M : Type 0} (rule : Rule M) (text : List ℕ) (i : ℕ) (mode : M) → length text ≤ i → IsWithin rule i mode text → pieces rule rule.start text ≡ text ∷ []
no_place rule text i mode past at =
    let i_is : i ≡ length text = omega (arith, at.inside) in
    let none : drop i text ≡ [] = rw i_is (drop-length text) in
    let all : take i text ≡ text = rw i_is (take-length text) in
    let now : behind_front (take i text) ([] ∷ []) ≡ pieces rule rule.start text = rw none at at.same in
    sym now ∙ ap (λ l. l ∷ []) (append-nil (take i text) ∙ all)

nothing_onto : (b : ℕ) (ps : List (List ℕ)) → behind_front [] (onto_first b ps) ≡ onto_first b ps
nothing_onto b [] = refl
nothing_onto b (p ∷ ps) = refl

nothing_before : {M : Type 0} (rule : Rule M) (text : List ℕ) → behind_front [] (pieces rule rule.start text) ≡ pieces rule rule.start text
nothing_before rule [] = refl
nothing_before rule (b ∷ rest) =
    elim (ends_piece rule rule.start b) as (λ e. behind_front [] (cond e ([] ∷ pieces rule rule.start rest) (onto_first b (pieces rule (rule.next rule.start b) rest))) ≡ cond e ([] ∷ pieces rule rule.start rest) (onto_first b (pieces rule (rule.next rule.start b) rest))) [
      | true ↦ refl
      | false ↦ nothing_onto b (pieces rule (rule.next rule.start b) rest)
    ]

pub at_front : {M : Type 0} (rule : Rule M) (text : List ℕ) → IsWithin rule 0 rule.start text
at_front rule text = record { inside = omega arith; same = nothing_before rule text }

abbrev pub IsCons : List (List ℕ) → Type 0
IsCons ps = (first : List ℕ) × (more : List (List ℕ)) × (ps ≡ first ∷ more)

onto_cons : (b : ℕ) (ps : List (List ℕ)) → IsCons (onto_first b ps)
onto_cons b [] = (b ∷ [], [], refl)
onto_cons b (p ∷ ps) = (b ∷ p, ps, refl)

-- there is a piece
pub pieces_cons : {M : Type 0} (rule : Rule M) (mode : M) (text : List ℕ) → IsCons (pieces rule mode text)
pieces_cons rule mode [] = ([], [], refl)
pieces_cons rule mode (b ∷ rest) =
    elim (ends_piece rule mode b) as (λ e. IsCons (cond e ([] ∷ pieces rule rule.start rest) (onto_first b (pieces rule (rule.next mode b) rest)))) [
      | true ↦ ([], pieces rule rule.start rest, refl)
      | false ↦ onto_cons b (pieces rule (rule.next mode b) rest)
    ]
