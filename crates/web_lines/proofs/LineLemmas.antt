-- The lines of bytes of which the first ones are known.
use Rattle.std.proofs.Common.{◌≡◌, ◌<◌, ◌≤◌, ◌+◌, ◌||◌, ℕ, suc, cond, Bool, true, false, List, [], ◌∷◌, ◌++◌, refl, ◌∙◌, ap, length, arith}
use Rattle.std.specs.Prelude.{nat_lt}
use Rattle.std.specs.List.{list_any}
use Rattle.std.proofs.lemmas.List.{length-append}
use Rattle.std.proofs.lemmas.List.Folds.{list_any-append}
use Rattle.std.proofs.lemmas.Bool.Decides.{nat_tests}
use Rattle.web_texts.specs.Bytes.{is_newline}
use Rattle.web_lines.specs.LineCuts.{IsTooLong}
use Rattle.web_lines.specs.Lines.{AfterBytes, and_then, answers_from, first_of, line_answer, line_answers, lines_of, onto_line, rest_answer, text_answer, too_long}
use Rattle.web_texts.proofs.LastCutLemmas.{or_false}

pub or_right : (a : Bool) → (a || true) ≡ true
or_right true = refl
or_right false = refl

pub none-append : (xs ys : List ℕ) → list_any is_newline xs ≡ false → list_any is_newline ys ≡ false → list_any is_newline (xs ++ ys) ≡ false
none-append xs ys h k = rw (list_any-append is_newline xs ys, h, k) refl

pub has_newline : (front : List ℕ) → list_any is_newline (front ++ 10 ∷ []) ≡ true
has_newline front = rw (list_any-append is_newline front (10 ∷ [])) (or_right (list_any is_newline front))

-- a line ends at its newline
pub lines_first : (front rest : List ℕ) → list_any is_newline front ≡ false → lines_of (front ++ 10 ∷ rest) ≡ (front ++ 10 ∷ []) ∷ lines_of rest
lines_first [] rest none = refl
lines_first (b ∷ front) rest none =
    let parts = or_false (is_newline b) (list_any is_newline front) none in
    rw (parts.0, lines_first front rest parts.1) refl

onto_has : (b : ℕ) (lines : List (List ℕ)) → (x : List ℕ) × (rest : List (List ℕ)) × (onto_line b lines ≡ (b ∷ x) ∷ rest)
onto_has b [] = ([], [], refl)
onto_has b (l ∷ lines) = (l, lines, refl)

longer : (b : ℕ) (bytes l : List ℕ) (lines : List (List ℕ)) → is_newline b ≡ false → lines_of bytes ≡ l ∷ lines → lines_of (b ∷ bytes) ≡ (b ∷ l) ∷ lines
longer b bytes l lines e h = rw (e, h) refl

-- the first line begins with what has no newline
pub begins : (b : ℕ) (front more : List ℕ) → list_any is_newline (b ∷ front) ≡ false
    → (x : List ℕ) × (rest : List (List ℕ)) × (lines_of ((b ∷ front) ++ more) ≡ ((b ∷ front) ++ x) ∷ rest)
begins b [] more none =
    let parts = or_false (is_newline b) false none in
    let h = onto_has b (lines_of more) in
    (h.0, h.1, rw parts.0 h.2)
begins b (d ∷ front) more none =
    let parts = or_false (is_newline b) (list_any is_newline (d ∷ front)) none in
    let h = begins d front more parts.1 in
    (h.0, h.1, longer b ((d ∷ front) ++ more) ((d ∷ front) ++ h.0) h.1 parts.0 h.2)

-- lines with one more byte in front
abbrev put : Bool → ℕ → List (List ℕ) → List (List ℕ)
put e b lines = cond e ((b ∷ []) ∷ lines) (onto_line b lines)

put_one : (e : Bool) (b : ℕ) (all : List (List ℕ)) → (x : List ℕ) × (rest : List (List ℕ)) × (put e b all ≡ (first_of (put e b []) ++ x) ∷ rest)
put_one true b all = ([], all, refl)
put_one false b [] = ([], [], refl)
put_one false b (l ∷ ls) = (l, ls, refl)

put_begins : (e : Bool) (b : ℕ) (lines all : List (List ℕ)) (x : List ℕ) (rest : List (List ℕ)) → all ≡ (first_of lines ++ x) ∷ rest
    → (y : List ℕ) × (more : List (List ℕ)) × (put e b all ≡ (first_of (put e b lines) ++ y) ∷ more)
put_begins true b lines all x rest is = ([], all, refl)
put_begins false b [] all x rest is = (x, rest, rw is refl)
put_begins false b (l ∷ ls) all x rest is = (x, rest, rw is refl)

-- the first line begins with the first line of a front of the bytes
begins_first : (b : ℕ) (front more : List ℕ) → (x : List ℕ) × (rest : List (List ℕ)) × (lines_of ((b ∷ front) ++ more) ≡ (first_of (lines_of (b ∷ front)) ++ x) ∷ rest)
begins_first b [] more = put_one (is_newline b) b (lines_of more)
begins_first b (d ∷ front) more =
    let h = begins_first d front more in
    put_begins (is_newline b) b (lines_of (d ∷ front)) (lines_of ((d ∷ front) ++ more)) h.0 h.1 h.2

put_fits : (e : Bool) (b : ℕ) (lines : List (List ℕ)) (n : ℕ) → length (first_of lines) ≤ n → length (first_of (put e b lines)) ≤ suc n
put_fits true b lines n h = omega arith
put_fits false b [] n h = omega arith
put_fits false b (l ∷ ls) n h = omega (arith, h)

pub first_fits : (came : List ℕ) → length (first_of (lines_of came)) ≤ length came
first_fits [] = omega arith
first_fits (b ∷ came) = put_fits (is_newline b) b (lines_of came) (length came) (first_fits came)

-- bytes without a newline are one line
pub one_line : (b : ℕ) (held : List ℕ) → list_any is_newline (b ∷ held) ≡ false → lines_of (b ∷ held) ≡ (b ∷ held) ∷ []
one_line b [] none = let parts = or_false (is_newline b) false none in rw parts.0 refl
one_line b (d ∷ held) none =
    let parts = or_false (is_newline b) (list_any is_newline (d ∷ held)) none in
    longer b (d ∷ held) (d ∷ held) [] parts.0 (one_line d held parts.1)

pub fits : (limit n : ℕ) → n ≤ limit → nat_lt limit n ≡ false
fits limit n h = grind (arith, nat_tests)

pub passes : (limit n : ℕ) → limit < n → nat_lt limit n ≡ true
passes limit n h = grind (arith, nat_tests)

pub line_within : (limit start : ℕ) (line : List ℕ) → length line ≤ limit → line_answer limit start line ≡ record { known = AfterBytes (start + length line); answer = text_answer line }
line_within limit start line h = rw (fits limit (length line) h) refl

pub line_over : (limit start : ℕ) (line : List ℕ) → limit < length line → line_answer limit start line ≡ too_long limit start
line_over limit start line h = rw (passes limit (length line) h) refl

pub rest_over : (limit : ℕ) (fault : Bool) (start : ℕ) (line : List ℕ) → limit < length line → rest_answer limit fault start line ≡ too_long limit start
rest_over limit fault start line h = rw (passes limit (length line) h) refl

-- the first line is too long, be it finished or not
pub first_over : (limit : ℕ) (fault : Bool) (line : List ℕ) (lines : List (List ℕ)) (b : Bool) → list_any is_newline line ≡ b → limit < length line
    → answers_from limit fault 0 (line ∷ lines) ≡ too_long limit 0 ∷ []
first_over limit fault line lines true is h = rw (is, line_over limit 0 line h) refl
first_over limit fault line lines false is h = rw (is, rest_over limit fault 0 line h) refl

pub first_too_long : (limit : ℕ) (fault : Bool) (came more : List ℕ) → IsTooLong limit came → line_answers limit fault (came ++ more) ≡ too_long limit 0 ∷ []
first_too_long limit fault [] more long = absurd (omega (arith, long))
first_too_long limit fault (b ∷ came) more long =
    let p = begins_first b came more in
    let first = first_of (lines_of (b ∷ came)) ++ p.0 in
    let far : limit < length first = omega (arith, long, length-append (first_of (lines_of (b ∷ came))) p.0) in
    ap (answers_from limit fault 0) p.2 ∙ first_over limit fault first p.1 (list_any is_newline first) refl far

-- bytes without a newline are too long where they are more than the limit
pub alone_too_long : (limit : ℕ) (came : List ℕ) → list_any is_newline came ≡ false → limit < length came → IsTooLong limit came
alone_too_long limit [] none h = absurd (omega (arith, h))
alone_too_long limit (b ∷ came) none h = rw (one_line b came none) h

pub first_line : (limit : ℕ) (fault : Bool) (front rest : List ℕ) → list_any is_newline front ≡ false
    → line_answers limit fault (front ++ 10 ∷ rest)
    ≡ and_then (line_answer limit 0 (front ++ 10 ∷ [])) (answers_from limit fault (length (front ++ 10 ∷ [])) (lines_of rest))
first_line limit fault front rest none =
    let none_before : 0 + length (front ++ 10 ∷ []) ≡ length (front ++ 10 ∷ []) = omega arith in
    rw (lines_first front rest none, has_newline front, none_before) refl
