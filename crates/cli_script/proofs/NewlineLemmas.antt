-- A text cut at its first newline.
use Rattle.std.proofs.Common.{◌≡◌, ◌<◌, ℕ, suc, ◌+◌, false, List, [], ◌∷◌, length, take, drop, ◌∙◌, ap, arith, get_or, Option, Some, None}
use Rattle.std.specs.Prelude.{IfSome, IfNone}
use Rattle.std.specs.List.{slice_split, All}
use Rattle.std.proofs.Math.Seq.{split_at}
use Rattle.std.proofs.lemmas.Bool.{false_from_ne_true}
use Rattle.std.proofs.lemmas.List.{get_or-take, get_or_default, length-take-le}
use Rattle.std.proofs.lemmas.List.Splits.{slice_split_at, slice_split_none}
use Rattle.memchr.specs.Find.{Nowhere, NoneBefore, Passes, IsFirstByte, is_byte}
use Rattle.web_texts.specs.Bytes.{is_newline}

none_there : (text : List ℕ) (end : ℕ) → Nowhere (Passes (is_byte 10) text) 0 end → (k d : ℕ) → k < end → k < length text → is_newline (get_or text k d) ≡ false
none_there text end none k d small inside =
    rw (get_or_default text k d 0 inside) (false_from_ne_true (is_newline (get_or text k 0)) (none k (omega arith) small))

pub cut_line : (text : List ℕ) (end : ℕ) → NoneBefore (Passes (is_byte 10) text) 0 (length text) end → Passes (is_byte 10) text end
    → slice_split is_newline text ≡ take end text ∷ slice_split is_newline (drop (end + 1) text)
cut_line text end before here =
    let front : All (λ b. is_newline b ≡ false) (take end text) =
    λ k d small.
    let size : length (take end text) ≡ end = length-take-le end text (omega (arith, before.high)) in
    let small : k < end = omega (arith, small, size) in
    rw (get_or-take end text k d small) (none_there text end before.before k d small (omega (arith, small, before.high))) in
    let next : end + 1 ≡ suc end = omega arith in
    rw next (ap (slice_split is_newline) (split_at text end 0 before.high) ∙ slice_split_at is_newline (take end text) (get_or text end 0) (drop (suc end) text) front here)

pub one_line : (text : List ℕ) → Nowhere (Passes (is_byte 10) text) 0 (length text) → slice_split is_newline text ≡ text ∷ []
one_line text none = slice_split_none is_newline text (λ k d small. none_there text (length text) none k d small small)

pub line_clause : (text : List ℕ) (r : Option ℕ) → IsFirstByte (is_byte 10) text r → IfSome r (λ end. slice_split is_newline text ≡ take end text ∷ slice_split is_newline (drop (end + 1) text))
line_clause text None is = tt
line_clause text (Some end) is = cut_line text end is.0 is.1

pub last_clause : (text : List ℕ) (r : Option ℕ) → IsFirstByte (is_byte 10) text r → IfNone r (slice_split is_newline text ≡ text ∷ [])
last_clause text None is = one_line text is
last_clause text (Some end) is = tt
