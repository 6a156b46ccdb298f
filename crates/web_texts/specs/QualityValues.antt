-- Quality values (RFC 9110, section 12.4.2), in thousandths.
use Rattle.std.specs.Prelude.{ℕ, ◌+◌, ◌-◌, ◌*◌, ◌/◌, ◌%◌, ◌==◌, ◌&&◌, List, [], ◌∷◌, ◌++◌}
use Rattle.std.specs.Prelude.{codes, Option, None, Some, if◌then◌else◌}
use Rattle.std.specs.Option.{option_and_then}
use Rattle.std.specs.List.{list_all, before_first, after_first}
use Rattle.std.specs.Char.{is_ascii_digit}
use Rattle.std.specs.Str.{bytes_eq}
use Rattle.web_texts.specs.Bytes.{is_dot}

-- the thousandths of up to three digits
abbrev pub thousandths_of : List ℕ → Option ℕ
thousandths_of [] = Some 0
thousandths_of (a ∷ []) = Some ((a - 48) * 100)
thousandths_of (a ∷ b ∷ []) = Some ((a - 48) * 100 + (b - 48) * 10)
thousandths_of (a ∷ b ∷ c ∷ []) = Some ((a - 48) * 100 + (b - 48) * 10 + (c - 48))
thousandths_of more = None

abbrev pub fraction_of : List ℕ → Option ℕ
fraction_of digits = if list_all is_ascii_digit digits then thousandths_of digits else None

-- `0`, or `0.` and up to three digits, or `1`, or `1.` and up to three zeros: as the RFC says
abbrev pub quality_of : List ℕ → Option ℕ
quality_of text = option_and_then (λ fraction.
    if bytes_eq (before_first is_dot text) (codes "0") then Some fraction
    else if bytes_eq (before_first is_dot text) (codes "1") && fraction == 0 then Some 1000
    else None) (fraction_of (after_first is_dot text))

-- up to three digits, without zeros at the end
abbrev pub fraction_text : ℕ → List ℕ
fraction_text n =
    if n % 100 == 0 then (48 + n / 100) ∷ []
    else if n % 10 == 0 then (48 + n / 100) ∷ (48 + n / 10 % 10) ∷ []
    else (48 + n / 100) ∷ (48 + n / 10 % 10) ∷ (48 + n % 10) ∷ []

-- what is printed after an item
abbrev pub weight_text : ℕ → List ℕ
weight_text n =
    if n == 1000 then []
    else if n == 0 then codes "; q=0"
    else codes "; q=0." ++ fraction_text n
