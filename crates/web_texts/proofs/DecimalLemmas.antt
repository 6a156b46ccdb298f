-- The digits of a number read back, and no other byte stands in them.
use Rattle.std.proofs.Common.{◌≡◌, ◌<◌, ◌≤◌, ◌==◌, ◌+◌, ◌-◌, ◌*◌, ◌^◌, ℕ, true, false, List, [], ◌∷◌, length, Some, refl, arith}
use Rattle.std.specs.Prelude.{nat_le, decimal, fold}
use Rattle.std.specs.List.{list_all, list_any}
use Rattle.std.specs.Char.{is_ascii_digit}
use Rattle.std.proofs.lemmas.Bool.Decides.{nat_tests}
use Rattle.std.proofs.lemmas.Fmt.{digits_decimal, digits_value-decimal, decimal_nonempty}
use Rattle.std.proofs.lemmas.Str.Parse.{IsDigitsTest, IsNumeralModel, FoldsDigits, numerals_by_fold}
use Rattle.web_texts.specs.Digits.{digits_value, digits_up_to}
use Rattle.web_texts.proofs.TestLemmas.{both}

abbrev AreDigits : List ℕ → Type 0
AreDigits ds = list_all is_ascii_digit ds ≡ true

low : (c : ℕ) → is_ascii_digit c ≡ true → 48 ≤ c
low c e = grind (arith, nat_tests)

high : (c : ℕ) → is_ascii_digit c ≡ true → c ≤ 57
high c e = grind (arith, nat_tests)

is_digit : (c : ℕ) → 48 ≤ c → c ≤ 57 → is_ascii_digit c ≡ true
is_digit c l h = grind (arith, nat_tests)

digits_test : IsDigitsTest AreDigits
digits_test = record {
  empty = refl;
  parts = λ c cs e. let k = both (is_ascii_digit c) (list_all is_ascii_digit cs) e in ((low c k.0, high c k.0), k.1);
  more = λ c cs k e. rw (is_digit c k.0 k.1) e;
}

folds_digits : FoldsDigits (λ n ds. fold (λ value b. value * 10 + (b - 48)) n ds)
folds_digits = record { empty = λ n. refl; more = λ n c cs k. refl }

numeral_model : IsNumeralModel AreDigits digits_value
numeral_model = numerals_by_fold AreDigits digits_test (λ n ds. fold (λ value b. value * 10 + (b - 48)) n ds) folds_digits

pub number_back : (n max : ℕ) → n ≤ max → max ≤ 18446744073709551615
    → digits_up_to max (decimal n) ≡ Some n
number_back n max within most =
    let small : n ≤ 18446744073709551615 = omega (arith, within, most) in
    let fits : n < 2 ^ 64 = omega (arith, small) in
    let some : (length (decimal n) == 0) ≡ false = grind (arith, nat_tests, decimal_nonempty n fits) in
    let digits : list_all is_ascii_digit (decimal n) ≡ true = digits_decimal numeral_model n fits in
    let value : digits_value (decimal n) ≡ n = digits_value-decimal numeral_model n fits in
    let greatest : nat_le n max ≡ true = grind (arith, nat_tests) in
    rw (some, digits, value, greatest) refl

other_byte : (byte d : ℕ) → is_ascii_digit byte ≡ false → is_ascii_digit d ≡ true → (d == byte) ≡ false
other_byte byte d unfit fits = grind (arith, nat_tests)

away : (byte : ℕ) (ds : List ℕ) → is_ascii_digit byte ≡ false → AreDigits ds → list_any (λ b. b == byte) ds ≡ false
away byte [] unfit e = refl
away byte (d ∷ ds) unfit e =
    let k = both (is_ascii_digit d) (list_all is_ascii_digit ds) e in
    rw (other_byte byte d unfit k.0, away byte ds unfit k.1) refl

-- no byte but a digit stands in them
pub none_in : (byte n : ℕ) → is_ascii_digit byte ≡ false → n ≤ 18446744073709551615 → list_any (λ b. b == byte) (decimal n) ≡ false
none_in byte n unfit small = away byte (decimal n) unfit (digits_decimal numeral_model n (omega (arith, small)))
