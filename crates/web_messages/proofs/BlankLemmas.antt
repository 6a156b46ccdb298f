-- Bytes that are not CR and LF alone stay so.
use Rattle.std.proofs.Common.{◌≡◌, Bool, true, false, ◌&&◌, ℕ, ◌<◌, List, ◌++◌, length, get_or, refl, ap, ◌∙◌, arith}
use Rattle.std.proofs.lemmas.List.Folds.{list_all-append, list_all_at}
use Rattle.web_messages.specs.EmptyLines.{BeginsBlank, is_blank, is_line_byte}

pub blank_more : (bytes more : List ℕ) → is_blank bytes ≡ false → is_blank (bytes ++ more) ≡ false
blank_more bytes more e =
    list_all-append is_line_byte bytes more ∙ ap (λ (t : Bool). t && is_blank more) e

-- bytes that are CR and LF alone begin with as many of them
pub blank_all : (bytes : List ℕ) → is_blank bytes ≡ true → BeginsBlank bytes (length bytes)
blank_all bytes is = record {
  inside = omega arith;
  pass = λ k below. of k below (is_line_byte (get_or bytes k 0)) refl;
}
  where
    of : (k : ℕ) → k < length bytes → (b : Bool) → is_line_byte (get_or bytes k 0) ≡ b → is_line_byte (get_or bytes k 0) ≡ true
    of k below true e = e
    of k below false e = absurd (cc (is, list_all_at is_line_byte bytes k 0 below e))
