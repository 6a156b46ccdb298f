-- A text cut at each of a byte, part by part.
use Rattle.std.proofs.Common.{◌≡◌, ◌==◌, ℕ, ◌+◌, Bool, true, false, not, List, [], ◌∷◌, ◌++◌, cond, length, refl, ap, sym, ◌∙◌, arith, append_assoc, get_or}
use Rattle.std.specs.List.{slice_split, onto_first, position_or_len, before_first, after_first, flat_map}
use Rattle.std.proofs.lemmas.List.{append-nil}
use Rattle.std.proofs.lemmas.List.Splits.{slice_split_first}
use Rattle.std.specs.List.{list_any}
use Rattle.std.proofs.Math.Seq.{take-length}
use Rattle.std.proofs.lemmas.List.Sums.{split_at_first, prefix_len_stops}
use Rattle.std.proofs.lemmas.Bool.Decides.{nat_tests}
use Rattle.web_texts.specs.Cut.{IsCut}
use Rattle.web_texts.proofs.LastCutLemmas.{none_before}

split_step : {X : Type 0} (p : X → Bool) (x : X) (xs : List X) (b : Bool) → cond (not b) (1 + position_or_len p xs) 0 ≡ length (x ∷ xs)
    → (position_or_len p xs ≡ length xs → slice_split p xs ≡ xs ∷ []) → cond b ([] ∷ slice_split p xs) (onto_first x (slice_split p xs)) ≡ (x ∷ xs) ∷ []
split_step p x xs true e next = absurd (omega (arith, e))
split_step p x xs false e next = rw (next (omega (arith, e))) refl

-- where no element passes, the one part is all
pub split_whole : {X : Type 0} (p : X → Bool) (xs : List X) → position_or_len p xs ≡ length xs → slice_split p xs ≡ xs ∷ []
split_whole p [] e = refl
split_whole p (x ∷ xs) e = split_step p x xs (p x) e (split_whole p xs)

pub split_cut : (byte : ℕ) (text line rest : List ℕ) → IsCut byte text line rest → slice_split (λ b. b == byte) text ≡ line ∷ slice_split (λ b. b == byte) rest
split_cut byte text line rest cut = rw (cut.before_is, cut.after_is) (slice_split_first (λ b. b == byte) text 0 cut.has)

-- what the first part gives is added, and the rest is left
pub part_more : {T : Type 0} (f : List ℕ → List T) (byte : ℕ) (text part rest : List ℕ) (now next all : List T) → IsCut byte text part rest
    → now ++ flat_map f (slice_split (λ b. b == byte) text) ≡ all → next ≡ now ++ f part → next ++ flat_map f (slice_split (λ b. b == byte) rest) ≡ all
part_more f byte text part rest now next all cut so_far is =
    rw (is, append_assoc now (f part) (flat_map f (slice_split (λ b. b == byte) rest)), ← so_far, split_cut byte text part rest cut) refl

-- the last part
pub part_last : {T : Type 0} (f : List ℕ → List T) (byte : ℕ) (text : List ℕ) (now next all : List T) → position_or_len (λ b. b == byte) text ≡ length text
    → now ++ flat_map f (slice_split (λ b. b == byte) text) ≡ all → next ≡ now ++ f text → next ≡ all
part_last f byte text now next all whole so_far is =
    rw (is, ← so_far, split_whole (λ (b : ℕ). b == byte) text whole) (ap (λ l. now ++ l) (sym (append-nil (f text))))

byte_is : (a b : ℕ) → not (a == b) ≡ false → a ≡ b
byte_is a b e = grind (arith, nat_tests)

-- what a cut at a byte says: the byte stands between the parts, and not before
pub record Parts (byte : ℕ) (text before after : List ℕ) : Type 0 where
  pub text_is : text ≡ before ++ byte ∷ after
  pub none : list_any (λ b. b == byte) before ≡ false

pub cut_parts : (byte : ℕ) (text before after : List ℕ) → IsCut byte text before after → Parts byte text before after
cut_parts byte text before after cut =
    let here : get_or text (position_or_len (λ b. b == byte) text) 0 ≡ byte = byte_is _ _ (prefix_len_stops (λ b. not (b == byte)) text 0 cut.has) in
    record {
      text_is = rw (cut.before_is, cut.after_is) (split_at_first (λ b. b == byte) text 0 cut.has ∙ ap (λ x. before_first (λ b. b == byte) text ++ x ∷ after_first (λ b. b == byte) text) here);
      none = rw cut.before_is (none_before (λ b. b == byte) text);
    }

-- where the byte is not there
pub no_cut : (byte : ℕ) (text : List ℕ) → position_or_len (λ b. b == byte) text ≡ length text → list_any (λ b. b == byte) text ≡ false
no_cut byte text whole =
    let all : before_first (λ b. b == byte) text ≡ text = rw whole (take-length text) in
    rw all at (none_before (λ b. b == byte) text)
