-- The text of a date may stand in a header.
use Rattle.std.proofs.Common.{◌≡◌, ◌<◌, ◌≤◌, ℕ, ◌+◌, ◌-◌, ◌/◌, ◌%◌, suc, zero, Bool, true, false, List, [], ◌∷◌, ◌++◌, ◌&&◌, refl, ap, ◌∙◌, arith}
use Rattle.std.specs.List.{list_all}
use Rattle.std.specs.Prelude.{codes, slice_index_or}
use Rattle.std.proofs.lemmas.Bool.{false≢true}
use Rattle.std.proofs.lemmas.Bool.Decides.{nat_tests}
use Rattle.std.proofs.lemmas.List.Folds.{list_all-append}
use Rattle.http_header.specs.Token.{is_value_byte}
use Rattle.httpdate.specs.Calendar.{IsCivilDate, IsTimeOfDay}
use Rattle.httpdate.specs.Text.{day_name, month_name, two_digits, four_digits, time_of_day}
use Rattle.httpdate.specs.Date.{date_text}
use Rattle.httpdate.specs.declared.date.HttpDate.{HttpDate}
use Rattle.httpdate.specs.declared.parts.Parts.{Parts}

record Stands (bytes : List ℕ) : Type 0 where
  is : list_all is_value_byte bytes ≡ true

value_byte : (b : ℕ) → 32 ≤ b → b < 127 → is_value_byte b ≡ true
value_byte b low high = grind (arith, nat_tests)

both : {xs ys : List ℕ} → Stands xs → Stands ys → Stands (xs ++ ys)
both {xs} {ys} h k = record { is = list_all-append is_value_byte xs ys ∙ ap (λ b. b && list_all is_value_byte ys) h.is ∙ k.is }

-- ---- names, as entries of a table

left_true : (a b : Bool) → (a && b) ≡ true → a ≡ true
left_true true b h = refl
left_true false b h = absurd (false≢true h)

right_true : (a b : Bool) → (a && b) ≡ true → b ≡ true
right_true true b h = h
right_true false b h = absurd (false≢true h)

entry : (table : List (List ℕ)) (i : ℕ) → list_all (λ bytes. list_all is_value_byte bytes) table ≡ true → list_all is_value_byte (slice_index_or table i []) ≡ true
entry [] i h = refl
entry (bytes ∷ table) zero h = left_true (list_all is_value_byte bytes) _ h
entry (bytes ∷ table) (suc i) h = entry table i (right_true (list_all is_value_byte bytes) _ h)

abbrev days : List (List ℕ)
days = codes "Mon" ∷ codes "Tue" ∷ codes "Wed" ∷ codes "Thu" ∷ codes "Fri" ∷ codes "Sat" ∷ codes "Sun" ∷ []

day : (n : ℕ) → Stands (day_name n)
day n = record { is = entry days (n - 1) refl }

abbrev months : List (List ℕ)
months = codes "Jan" ∷ codes "Feb" ∷ codes "Mar" ∷ codes "Apr" ∷ codes "May" ∷ codes "Jun" ∷ codes "Jul" ∷ codes "Aug" ∷ codes "Sep" ∷ codes "Oct" ∷ codes "Nov" ∷ codes "Dec" ∷ []

month : (n : ℕ) → Stands (month_name n)
month n = record { is = entry months (n - 1) refl }

digits : (n : ℕ) → n < 100 → Stands (two_digits n)
digits n small =
    let tens : n / 10 < 10 = omega arith in
    let ones : n % 10 < 10 = omega arith in
    let a : is_value_byte (48 + n / 10) ≡ true = value_byte (48 + n / 10) (omega arith) (omega arith) in
    let b : is_value_byte (48 + n % 10) ≡ true = value_byte (48 + n % 10) (omega arith) (omega arith) in
    record { is = ap (λ t. t && (is_value_byte (48 + n % 10) && true)) a ∙ ap (λ t. t && true) b }

year : (n : ℕ) → n < 10000 → Stands (four_digits n)
year n small = both (digits (n / 100) (omega arith)) (digits (n % 100) (omega arith))

colon : Stands (codes ":")
colon = record { is = refl }

blank : Stands (codes " ")
blank = record { is = refl }

comma : Stands (codes ", ")
comma = record { is = refl }

zone : Stands (codes " GMT")
zone = record { is = refl }

time : (p : Parts) → IsTimeOfDay p.hour p.min p.sec → Stands (time_of_day p)
time p is = both (digits p.hour (omega arith)) (both colon (both (digits p.min (omega arith)) (both colon (digits p.sec (omega arith)))))

days_at_most : (y m d : ℕ) → IsCivilDate y m d → d < 100
days_at_most y m d is = grind (arith, is.2.1)

pub date_stands : (d : HttpDate) → list_all is_value_byte (date_text d) ≡ true
date_stands d =
    let p : Parts = d.parts in
    let front = both (both (day p.wday) comma) (digits p.day (days_at_most p.year p.mon p.day d.civil)) in
    let dated = both (both (both front blank) (month p.mon)) blank in
    (both (both (both (both dated (year p.year (omega (arith, d.civil.0.1)))) blank) (time p d.time)) zone).is
