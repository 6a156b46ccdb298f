-- The parts of a text that is split at the first or the last occurrence of a byte.
use Rattle.std.proofs.Common.{◌≡◌, ◌≢◌, ◌<◌, ◌==◌, ℕ, suc, ◌+◌, true, false, not, List, [], ◌∷◌, ◌++◌, length, take, drop, get_or, Some, None, eq-eqb, refl, ap, sym, ◌∙◌, arith, add-one, drop-cons, length-drop}
use Rattle.std.specs.List.{list_any, before_last, after_last, prefix_len, position_or_len}
use Rattle.std.proofs.Math.Seq.{drop-append-add, take-append_seam}
use Rattle.std.proofs.lemmas.List.{take-append-drop, get_or-drop}
use Rattle.std.proofs.lemmas.List.Folds.{list_any-append}
use Rattle.std.proofs.lemmas.Bool.Decides.{nat_tests}
use Rattle.web_texts.specs.Cut.{IsCut, split_once, split_at_last}
use Rattle.web_texts.proofs.LastCutLemmas.{stop, after_last_at, before_last_at}
use Rattle.web_texts.proofs.SplitLemmas.{cut_parts, no_cut}
use Rattle.web_texts.proofs.TestLemmas.{or_true}

-- the byte at which a text was split stands in it
pub cut_there : (byte : ℕ) (text before after : List ℕ) → IsCut byte text before after → list_any (λ b. b == byte) text ≡ true
cut_there byte text before after cut =
    let parts = cut_parts byte text before after cut in
    let this : (byte == byte) ≡ true = eq-eqb byte byte refl in
    rw (parts.text_is, list_any-append (λ b. b == byte) before (byte ∷ after), this) (or_true (list_any (λ b. b == byte) before))

pub cut_is : (byte : ℕ) (text before after : List ℕ) → IsCut byte text before after → split_once byte text ≡ Some (before, after)
cut_is byte text before after cut = rw (cut_there byte text before after cut, ← cut.before_is, ← cut.after_is) refl

pub cut_is_none : (byte : ℕ) (text : List ℕ) → position_or_len (λ b. b == byte) text ≡ length text → split_once byte text ≡ None
cut_is_none byte text whole = rw (no_cut byte text whole) refl

-- a text that is split where it was put together
pub split_once_back : (byte : ℕ) (front rest : List ℕ) → list_any (λ b. b == byte) front ≡ false → split_once byte (front ++ byte ∷ rest) ≡ Some (front, rest)
split_once_back byte front rest none =
    let this : (byte == byte) ≡ true = eq-eqb byte byte refl in
    let there : list_any (λ b. b == byte) (front ++ byte ∷ rest) ≡ true = rw (list_any-append (λ b. b == byte) front (byte ∷ rest), this) (or_true (list_any (λ b. b == byte) front)) in
    let place : prefix_len (λ b. not (b == byte)) (front ++ byte ∷ rest) ≡ length front = stop (λ b. b == byte) front byte rest none this in
    rw (there, place, take-append_seam front (byte ∷ rest), drop-append-add front (byte ∷ rest) 1) refl

-- a byte that stands at no place is not there
pub none_there : (byte : ℕ) (text : List ℕ) → ((i : ℕ) → i < length text → get_or text i 0 ≢ byte) → list_any (λ b. b == byte) text ≡ false
none_there byte [] away = refl
none_there byte (b ∷ text) away =
    let first : (b == byte) ≡ false = grind (arith, nat_tests, away 0) in
    rw (first, none_there byte text (λ i inside. away (suc i) (omega (arith, inside)))) refl

-- the parts round the last place at which the byte stands
pub last_cut_is : (byte : ℕ) (text : List ℕ) (k : ℕ) → k < length text → get_or text k 0 ≡ byte → ((i : ℕ) → k < i → i < length text → get_or text i 0 ≢ byte)
    → split_at_last byte text ≡ Some (take k text, drop (k + 1) text)
last_cut_is byte text k inside is away =
    let cut : drop k text ≡ byte ∷ drop (k + 1) text = rw (add-one, drop-cons text k 0, is) refl in
    let parts : text ≡ take k text ++ byte ∷ drop (k + 1) text = sym (take-append-drop k text) ∙ ap (λ l. take k text ++ l) cut in
    let none : list_any (λ b. b == byte) (drop (k + 1) text) ≡ false =
    none_there byte (drop (k + 1) text) (λ i there. rw get_or-drop (away (k + 1 + i) (omega arith) (omega (arith, there, length-drop (k + 1) text)))) in
    let this : (byte == byte) ≡ true = eq-eqb byte byte refl in
    let has : list_any (λ b. b == byte) text ≡ true =
    ap (list_any (λ b. b == byte)) parts ∙ list_any-append (λ b. b == byte) (take k text) (byte ∷ drop (k + 1) text) ∙ rw this (or_true (list_any (λ b. b == byte) (take k text))) in
    let before : before_last (λ b. b == byte) text ≡ take k text =
    ap (before_last (λ b. b == byte)) parts ∙ before_last_at (λ b. b == byte) (take k text) byte (drop (k + 1) text) this none in
    let after : after_last (λ b. b == byte) text ≡ drop (k + 1) text =
    ap (after_last (λ b. b == byte)) parts ∙ after_last_at (λ b. b == byte) (take k text) byte (drop (k + 1) text) this none in
    rw (has, before, after) refl

pub last_cut_is_none : (byte : ℕ) (text : List ℕ) → ((i : ℕ) → i < length text → get_or text i 0 ≢ byte) → split_at_last byte text ≡ None
last_cut_is_none byte text away = rw (none_there byte text away) refl
