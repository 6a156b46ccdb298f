-- A line with a newline at its end, and one without.
use Rattle.std.proofs.Common.{◌≡◌, ◌≢◌, ℕ, suc, ◌+◌, ◌-◌, ◌<◌, ◌&&◌, List, [], ◌∷◌, ◌++◌, length, take, drop, true, false, Bool, if◌then◌else◌, refl, sym, ◌∙◌, ap, arith}
use Rattle.std.specs.Prelude.{slice_index, nat_lt}
use Rattle.std.specs.Io.BufRead.{ends_with_byte}
use Rattle.std.proofs.lemmas.Bool.{eqb-true, lt-ltb, ltb-true}
use Rattle.std.proofs.lemmas.List.{drop_all, length-append, take-append-drop}
use Rattle.std.proofs.Math.Seq.{drop-cons, get_or-append_seam, take-append_seam}
use Rattle.demo_content.specs.DemoTexts.{without_newline}

pub stripped : (front : List ℕ) → without_newline (front ++ 10 ∷ []) ≡ front
stripped front =
    let long : length (front ++ 10 ∷ []) ≡ length front + 1 = length-append front (10 ∷ []) in
    let before : length (front ++ 10 ∷ []) - 1 ≡ length front = omega arith in
    let some : nat_lt 0 (length (front ++ 10 ∷ [])) ≡ true = lt-ltb 0 (length (front ++ 10 ∷ [])) (omega arith) in
    rw (before, get_or-append_seam front 10 [] 0, some) (take-append_seam front (10 ∷ []))

both_true : (s t : Bool) → (s && t) ≡ true → (s ≡ true) × (t ≡ true)
both_true true t e = (refl, e)
both_true false t e = absurd (cc)

at_end : (line : List ℕ) → 0 < length line → slice_index line (length line - 1) ≡ 10 → line ≡ take (length line - 1) line ++ 10 ∷ []
at_end line some last =
    let cut : take (length line - 1) line ++ drop (length line - 1) line ≡ line = take-append-drop (length line - 1) line in
    let end : drop (length line - 1) line ≡ slice_index line (length line - 1) ∷ drop (suc (length line - 1)) line = drop-cons line (length line - 1) 0 (omega arith) in
    let none : drop (suc (length line - 1)) line ≡ [] = drop_all (suc (length line - 1)) line (omega arith) in
    sym cut ∙ ap (λ (l : List ℕ). take (length line - 1) line ++ l) (rw (last, none) at end)

kept_by : (line : List ℕ) → ((front : List ℕ) → line ≢ front ++ 10 ∷ []) → (ends : Bool) → ends_with_byte 10 line ≡ ends → (if ends then take (length line - 1) line else line) ≡ line
kept_by line none false e = refl
kept_by line none true e =
    let both = both_true (nat_lt 0 (length line)) _ e in
    absurd (none (take (length line - 1) line) (at_end line (ltb-true 0 (length line) both.0) (eqb-true (slice_index line (length line - 1)) 10 both.1)))

pub kept : (line : List ℕ) → ((front : List ℕ) → line ≢ front ++ 10 ∷ []) → without_newline line ≡ line
kept line none = kept_by line none (ends_with_byte 10 line) refl
