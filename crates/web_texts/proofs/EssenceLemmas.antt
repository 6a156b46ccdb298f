-- The parts of an essence, put together again.
use Rattle.std.proofs.Common.{◌≡◌, ◌<◌, ◌==◌, ℕ, suc, ◌+◌, Bool, true, false, not, ◌||◌, List, [], ◌∷◌, ◌++◌, cond, length, refl, ap, sym, ◌∙◌, arith}
use Rattle.std.specs.List.{list_any, position_or_len, before_first, after_first, before_last, after_last}
use Rattle.std.specs.Str.{str_to_ascii_lowercase}
use Rattle.std.specs.Char.{to_ascii_lowercase}
use Rattle.std.proofs.lemmas.List.{append-nil}
use Rattle.std.proofs.lemmas.Bool.Decides.{nat_tests}
use Rattle.web_texts.specs.Pairs.{Pair}
use Rattle.web_texts.specs.MediaTypes.{is_slash, is_plus, has_suffix, subtype_of, suffix_of, suffix_text, of_essence, essence_of}
use Rattle.web_texts.proofs.LastCutLemmas.{before_last_at, after_last_at}
use Rattle.web_texts.proofs.SplitLemmas.{cut_parts}
use Rattle.web_texts.proofs.TestLemmas.{and_left}

place_step : (b any : Bool) (n len : ℕ) → (b || any) ≡ true → (any ≡ true → n < len) → cond (not b) (1 + n) 0 < suc len
place_step true any n len e rest = omega arith
place_step false any n len e rest = omega (arith, rest e)

any_place : {X : Type 0} (p : X → Bool) (xs : List X) → list_any p xs ≡ true → position_or_len p xs < length xs
any_place p [] e = absurd (cc)
any_place p (x ∷ xs) e = place_step (p x) (list_any p xs) (position_or_len p xs) (length xs) e (any_place p xs)

pub slash_back : (essence : List ℕ) → list_any is_slash essence ≡ true → before_first is_slash essence ++ 47 ∷ after_first is_slash essence ≡ essence
slash_back essence has =
    let parts = cut_parts 47 essence (before_first is_slash essence) (after_first is_slash essence) (record { has = any_place is_slash essence has; before_is = refl; after_is = refl }) in
    sym parts.text_is

-- where the last element that passes stands
record LastOf {X : Type 0} (p : X → Bool) (xs : List X) : Type 0 where
  front : List X
  x : X
  rest : List X
  parts : xs ≡ front ++ x ∷ rest
  passes : p x ≡ true
  none : list_any p rest ≡ false

or_left : (a b : Bool) → (a || b) ≡ true → b ≡ false → a ≡ true
or_left true b e none = refl
or_left false b e none = absurd (cc)

last_step : {X : Type 0} (p : X → Bool) (x : X) (xs : List X) (b : Bool) → list_any p xs ≡ b → (p x || list_any p xs) ≡ true → (list_any p xs ≡ true → LastOf p xs) → LastOf p (x ∷ xs)
last_step p x xs true is e more =
    let last = more is in
    record { front = x ∷ last.front; x = last.x; rest = last.rest; parts = ap (λ l. x ∷ l) last.parts; passes = last.passes; none = last.none }
last_step p x xs false is e more =
    record { front = []; x = x; rest = xs; parts = refl; passes = or_left (p x) (list_any p xs) e is; none = is }

last_of : {X : Type 0} (p : X → Bool) (xs : List X) → list_any p xs ≡ true → LastOf p xs
last_of p [] e = absurd (cc)
last_of p (x ∷ xs) e = last_step p x xs (list_any p xs) refl e (last_of p xs)

plus_is : (b : ℕ) → (b == 43) ≡ true → b ≡ 43
plus_is b e = grind (arith, nat_tests)

plus_back : (second : List ℕ) → list_any is_plus second ≡ true → before_last is_plus second ++ 43 ∷ after_last is_plus second ≡ second
plus_back second has =
    let last = last_of is_plus second has in
    let before : before_last is_plus second ≡ last.front = ap (before_last is_plus) last.parts ∙ before_last_at is_plus last.front last.x last.rest last.passes last.none in
    let after : after_last is_plus second ≡ last.rest = ap (after_last is_plus) last.parts ∙ after_last_at is_plus last.front last.x last.rest last.passes last.none in
    rw (before, after, ← plus_is last.x last.passes) (sym last.parts)

second_step : (second : List ℕ) (b : Bool) → has_suffix second ≡ b → subtype_of second ++ suffix_text (suffix_of second) ≡ second
second_step second true e = rw e (plus_back second (and_left (list_any is_plus second) _ e))
second_step second false e = rw e (append-nil second)

second_back : (second : List ℕ) → subtype_of second ++ suffix_text (suffix_of second) ≡ second
second_back second = second_step second (has_suffix second) refl

pub essence_back : (essence : List ℕ) (params : List Pair) → list_any is_slash essence ≡ true → essence_of (of_essence essence params) ≡ essence
essence_back essence params has = rw (second_back (after_first is_slash essence)) (slash_back essence has)

pub slash_lowered : (b : ℕ) → (to_ascii_lowercase b == 47) ≡ (b == 47)
slash_lowered b = grind (arith, nat_tests)

-- no letter turns into a slash, and no slash into a letter
pub has_slash_lowered : (text : List ℕ) → list_any is_slash (str_to_ascii_lowercase text) ≡ list_any is_slash text
has_slash_lowered [] = refl
has_slash_lowered (b ∷ text) = rw (slash_lowered b, has_slash_lowered text) refl
