-- What is written for each number from 0 on, one number after the other.
use Rattle.std.proofs.Common.{◌≡◌, ◌+◌, ℕ, List, [], ◌∷◌, ◌++◌, drop, length, refl, ap, sym, ◌∙◌, arith, append_assoc}
use Rattle.std.specs.Prelude.{flat_map, map}
use Rattle.std.specs.List.{range_with_len}
use Rattle.std.proofs.Math.Seq.{drop-append_seam}
use Rattle.std.proofs.lemmas.Grind.{flat_map-append}
use Rattle.std.proofs.lemmas.List.{append-nil}
use Rattle.std.proofs.lemmas.List.Folds.{flat_map-map}
use Rattle.std.proofs.lemmas.List.FromFn.{map-range_with_len_more}

numbers_more : (f : ℕ → List ℕ) (n : ℕ)
    → flat_map f (range_with_len 0 (n + 1)) ≡ flat_map f (range_with_len 0 n) ++ f n
numbers_more f n =
    let next : 0 + n ≡ n = omega arith in
    let now = flat_map-map (λ (text : List ℕ). text) f (range_with_len 0 n) in
    sym (flat_map-map (λ (text : List ℕ). text) f (range_with_len 0 (n + 1)))
    ∙ ap (λ texts. flat_map (λ (text : List ℕ). text) texts) (map-range_with_len_more f 0 n n next)
    ∙ flat_map-append (λ (text : List ℕ). text) (map f (range_with_len 0 n)) (f n ∷ [])
    ∙ rw (now, append-nil (f n)) refl

-- the text of one more number
pub written_more : (f : ℕ → List ℕ) (n : ℕ) (old now next : List ℕ)
    → now ≡ old ++ flat_map f (range_with_len 0 n) → next ≡ now ++ f n
    → next ≡ old ++ flat_map f (range_with_len 0 (n + 1))
written_more f n old now next so_far is =
    is ∙ ap (λ text. text ++ f n) so_far
    ∙ append_assoc old (flat_map f (range_with_len 0 n)) (f n)
    ∙ ap (λ text. old ++ text) (sym (numbers_more f n))

-- three pieces, written one after the other
pub three_pieces : (now a b c first second third : List ℕ)
    → first ≡ now ++ a → second ≡ first ++ b → third ≡ second ++ c → third ≡ now ++ ((a ++ b) ++ c)
three_pieces now a b c first second third one two three =
    rw (three, two, one, append_assoc now a b, append_assoc now (a ++ b) c) refl

-- what is written from `start` on is written again
pub repeated : (front text whole : List ℕ) (start : ℕ) → whole ≡ front ++ text → start ≡ length front
    → whole ++ drop start whole ≡ front ++ text ++ text
repeated front text whole start is at =
    rw (is, at, drop-append_seam front text) refl
