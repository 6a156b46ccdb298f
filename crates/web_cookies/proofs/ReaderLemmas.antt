-- Texts that are decoded.
use Rattle.std.proofs.Common.{◌≡◌, ◌==◌, ℕ, suc, Bool, true, false, List, [], ◌∷◌, length, Option, None, Some, Ok, Err, refl, ap, ◌∙◌, arith}
use Rattle.memchr.specs.Find.{IsFirstByte, Nowhere, Passes, is_byte}
use Rattle.percent_encoding.specs.Percent.{percent_decode}
use Rattle.percent_encoding.proofs.PercentLemmas.{percent_decode-nil, percent_decode_not_percent}
use Rattle.std.specs.Option.{is_some}
use Rattle.std.specs.Str.{IsUtf8, is_utf8}
use Rattle.std.proofs.lemmas.Str.{IsUtf8-from_is_utf8, is_utf8-from_IsUtf8}
use Rattle.web_cookies.specs.declared.cookie_parse_error.CookieParseError.TheVariants.{Utf8}
use Rattle.web_cookies.specs.CookieReaders.{utf8_text}

pub is_text : (text : List ℕ) → IsUtf8 text → utf8_text text ≡ Ok text
is_text text fits = rw (is_utf8-from_IsUtf8 text fits) refl

no_text_by : (text : List ℕ) (b : Bool) → is_utf8 text ≡ b → (IsUtf8 text → ⊥) → is_utf8 text ≡ false
no_text_by text true e unfit = absurd (unfit (IsUtf8-from_is_utf8 text e))
no_text_by text false e unfit = e

-- bytes that are not UTF-8
pub not_utf8 : (text : List ℕ) → (IsUtf8 text → ⊥) → is_utf8 text ≡ false
not_utf8 text unfit = no_text_by text (is_utf8 text) refl unfit

pub no_text : (text : List ℕ) → (IsUtf8 text → ⊥) → utf8_text text ≡ Err Utf8
no_text text unfit = rw (not_utf8 text unfit) refl

byte_test : (b : ℕ) → b ≡ 37 → (b == 37) ≡ true
byte_test b e = rw (e) refl

-- a text without escapes is decoded as it is
pub no_escape : (text : List ℕ) → Nowhere (Passes (is_byte 37) text) 0 (length text) → percent_decode text ≡ text
no_escape [] away = percent_decode-nil
no_escape (b ∷ text) away = percent_decode_not_percent b text (λ e. away 0 (omega arith) (omega arith) (byte_test b e)) ∙ ap (λ l. b ∷ l) (no_escape text (λ k low small. away (suc k) (omega arith) (omega (arith, small))))

pub no_escape_found : (text : List ℕ) (r : Option ℕ) → IsFirstByte (is_byte 37) text r → is_some r ≡ false → percent_decode text ≡ text
no_escape_found text None away e = no_escape text away
no_escape_found text (Some k) at e = absurd (cc)
