-- A content range reads back from its printed text.
use Rattle.std.proofs.Common.{◌≡◌, ◌≤◌, ◌==◌, ◌||◌, ℕ, Bool, true, false, List, [], ◌∷◌, ◌++◌, Option, Some, None, refl, arith}
use Rattle.std.specs.Prelude.{nat_le, decimal}
use Rattle.std.specs.List.{list_any}
use Rattle.std.specs.Str.{bytes_eq}
use Rattle.std.proofs.lemmas.Bool.Decides.{nat_tests}
use Rattle.std.proofs.lemmas.List.Folds.{list_any-append}
use Rattle.web_texts.proofs.CutLemmas.{split_once_back}
use Rattle.web_texts.specs.Digits.{number_of}
use Rattle.web_entities.specs.ContentRanges.{star_or, positions_of, bytes_range_of, content_range_of, positions_text, length_text, content_range_text}
use Rattle.web_entities.specs.EntityLaws.{IsSmall, IsUpward, IsPlain}
use Rattle.web_entities.specs.declared.content_range.ContentRangeSpec.{ContentRangeSpec}
use Rattle.web_entities.specs.declared.content_range.ContentRangeSpec.TheVariants as kind
use Rattle.web_texts.proofs.DecimalLemmas.{number_back, none_in}

most : 18446744073709551615 ≤ 18446744073709551615
most = omega arith

star_case : (b rest : Bool) → (b || rest) ≡ false → b ≡ false
star_case true rest e = absurd (cc)
star_case false rest e = refl

no_star : (text : List ℕ) → list_any (λ b. b == 42) text ≡ false → bytes_eq text (42 ∷ []) ≡ false
no_star [] e = refl
no_star (b ∷ rest) e = rw (star_case (b == 42) (list_any (λ b. b == 42) rest) e) refl

-- a byte that is neither a digit nor a dash
none_in_two : (byte a b : ℕ) → list_any (λ c. c == byte) (decimal a) ≡ false → list_any (λ c. c == byte) (decimal b) ≡ false → (45 == byte) ≡ false
    → list_any (λ c. c == byte) (decimal a ++ 45 ∷ decimal b) ≡ false
none_in_two byte a b first last dash =
    rw (list_any-append (λ c. c == byte) (decimal a) (45 ∷ decimal b), first, dash, last) refl

two_back : (a b : ℕ) → a ≤ b → b ≤ 18446744073709551615 → positions_of (decimal a ++ 45 ∷ decimal b) ≡ Some (a, b)
two_back a b up small =
    let first : a ≤ 18446744073709551615 = omega (arith, up, small) in
    let order : nat_le a b ≡ true = grind (arith, nat_tests) in
    rw (split_once_back 45 (decimal a) (decimal b) (none_in 45 a refl first), number_back a 18446744073709551615 first most, number_back b 18446744073709551615 small most, order) refl

range_back : (range : Option (ℕ × ℕ)) → IsUpward range → star_or positions_of (positions_text range) ≡ Some range
range_back None up = refl
range_back (Some p) up =
    let first : p.0 ≤ 18446744073709551615 = omega (arith, up.0, up.1) in
    let star : bytes_eq (positions_text (Some p)) (42 ∷ []) ≡ false = no_star (positions_text (Some p)) (none_in_two 42 p.0 p.1 (none_in 42 p.0 refl first) (none_in 42 p.1 refl up.1) refl) in
    rw (star, two_back p.0 p.1 up.0 up.1) refl

no_slash : (range : Option (ℕ × ℕ)) → IsUpward range → list_any (λ b. b == 47) (positions_text range) ≡ false
no_slash None up = refl
no_slash (Some p) up =
    let first : p.0 ≤ 18446744073709551615 = omega (arith, up.0, up.1) in
    none_in_two 47 p.0 p.1 (none_in 47 p.0 refl first) (none_in 47 p.1 refl up.1) refl

length_back : (len : Option ℕ) → IsSmall len → star_or number_of (length_text len) ≡ Some len
length_back None small = refl
length_back (Some n) small =
    let star : bytes_eq (decimal n) (42 ∷ []) ≡ false = no_star (decimal n) (none_in 42 n refl small) in
    rw (star, number_back n 18446744073709551615 small most) refl

bytes_back : (range : Option (ℕ × ℕ)) (len : Option ℕ) → IsUpward range → IsSmall len → bytes_range_of (positions_text range ++ 47 ∷ length_text len) ≡ Some (kind.Bytes range len)
bytes_back range len up small =
    rw (split_once_back 47 (positions_text range) (length_text len) (no_slash range up), range_back range up, length_back len small) refl

pub range_reads_back : (r : ContentRangeSpec) → IsPlain r → content_range_of (content_range_text r) ≡ Some r
range_reads_back (kind.Bytes range len) plain = bytes_back range len plain.0 plain.1
range_reads_back (kind.Unregistered unit resp) plain = rw (split_once_back 32 unit resp plain.1, plain.0) refl
