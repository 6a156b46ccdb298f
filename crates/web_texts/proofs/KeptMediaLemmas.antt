-- Media types are kept so that they read as themselves.
use Rattle.std.proofs.Common.{◌≡◌, ◌==◌, ℕ, ◌+◌, Bool, true, false, not, ◌&&◌, List, [], ◌∷◌, ◌++◌, cond, length, refl, ap, sym, ◌∙◌, arith, true≢false}
use Rattle.std.specs.Prelude.{Option, None, Some, codes}
use Rattle.std.specs.Option.{option_map}
use Rattle.std.specs.List.{list_all, list_any, position_or_len, before_first, after_first}
use Rattle.std.specs.Str.{bytes_eq, str_to_ascii_lowercase}
use Rattle.std.specs.Char.{is_ascii_alphanumeric, is_ascii_uppercase, to_ascii_lowercase}
use Rattle.std.proofs.Math.Seq.{drop-append-add, take-append_seam}
use Rattle.std.proofs.lemmas.Bool.Decides.{nat_tests}
use Rattle.std.proofs.lemmas.List.{take-map, drop-map, length-map}
use Rattle.std.proofs.lemmas.List.Folds.{list_any-append}
use Rattle.web_texts.specs.Bytes.{is_equals}
use Rattle.web_texts.specs.Blanks.{trimmed, without_front}
use Rattle.web_texts.specs.PieceItems.{is_empty}
use Rattle.web_texts.specs.Tokens.{is_token, is_token_byte}
use Rattle.web_texts.specs.MediaTypes.{and_parameters, is_essence, is_slash, of_essence, essence_of}
use Rattle.web_texts.specs.MediaTypes.{parameter, parameter_of, parameter_value, parameters_of}
use Rattle.web_texts.specs.WrittenMediaTypes.{AreKeptParameters, IsKept, IsKeptParameter}
use Rattle.web_texts.specs.Pairs.{Pair}
use Rattle.web_texts.proofs.EssenceLemmas.{essence_back, has_slash_lowered, slash_lowered}
use Rattle.web_texts.proofs.LastCutLemmas.{stop}
use Rattle.web_texts.proofs.TestLemmas.{and_left, and_right, same_byte, or_true}

differs_step : (b c : ℕ) (t : Bool) → (b == c) ≡ t → is_token_byte b ≡ true → is_token_byte c ≡ false → t ≡ false
differs_step b c true e inside outside = let here = rw (same_byte b c e) at inside in absurd (true≢false (sym here ∙ outside))
differs_step b c false e inside outside = refl

-- a byte of a token is none that may not stand in one
pub differs : (b c : ℕ) → is_token_byte b ≡ true → is_token_byte c ≡ false → (b == c) ≡ false
differs b c inside outside = differs_step b c (b == c) refl inside outside

-- no byte of a token is one that may not stand in it
pub none_in : (c : ℕ) (text : List ℕ) → is_token_byte c ≡ false → list_all is_token_byte text ≡ true → list_any (λ b. b == c) text ≡ false
none_in c [] outside all = refl
none_in c (b ∷ text) outside all =
    rw (differs b c (and_left (is_token_byte b) (list_all is_token_byte text) all) outside, none_in c text outside (and_right (is_token_byte b) (list_all is_token_byte text) all)) refl

pub token_bytes : (text : List ℕ) → is_token text ≡ true → list_all is_token_byte text ≡ true
token_bytes text e = and_right (not (length text == 0)) (list_all is_token_byte text) e

-- lower case

lower_twice : (b : ℕ) → to_ascii_lowercase (to_ascii_lowercase b) ≡ to_ascii_lowercase b
lower_twice b = grind (arith, nat_tests)

pub lowered_twice : (text : List ℕ) → str_to_ascii_lowercase (str_to_ascii_lowercase text) ≡ str_to_ascii_lowercase text
lowered_twice [] = refl
lowered_twice (b ∷ text) = rw (lower_twice b, lowered_twice text) refl

letter_is : (b : ℕ) → is_ascii_uppercase b ≡ true → is_ascii_alphanumeric b ≡ true
letter_is b e = grind (arith, nat_tests)

letter_lowered : (b : ℕ) → is_ascii_uppercase b ≡ true → is_ascii_alphanumeric (to_ascii_lowercase b) ≡ true
letter_lowered b e = grind (arith, nat_tests)

other_lowered : (b : ℕ) → is_ascii_uppercase b ≡ false → to_ascii_lowercase b ≡ b
other_lowered b e = grind (arith, nat_tests)

byte_step : (b : ℕ) (t : Bool) → is_ascii_uppercase b ≡ t → is_token_byte (to_ascii_lowercase b) ≡ is_token_byte b
unfolding is_token_byte
byte_step b true e = rw (letter_is b e, letter_lowered b e) refl
byte_step b false e = rw (other_lowered b e) refl

byte_lowered : (b : ℕ) → is_token_byte (to_ascii_lowercase b) ≡ is_token_byte b
byte_lowered b = byte_step b (is_ascii_uppercase b) refl

bytes_lowered : (text : List ℕ) → list_all is_token_byte (str_to_ascii_lowercase text) ≡ list_all is_token_byte text
bytes_lowered [] = refl
bytes_lowered (b ∷ text) = rw (byte_lowered b, bytes_lowered text) refl

pub token_lowered : (text : List ℕ) → is_token (str_to_ascii_lowercase text) ≡ is_token text
token_lowered text = rw (length-map text to_ascii_lowercase, bytes_lowered text) refl

place_lowered : (text : List ℕ) → position_or_len is_slash (str_to_ascii_lowercase text) ≡ position_or_len is_slash text
place_lowered [] = refl
place_lowered (b ∷ text) = rw (slash_lowered b, place_lowered text) refl

before_lowered : (text : List ℕ) → before_first is_slash (str_to_ascii_lowercase text) ≡ str_to_ascii_lowercase (before_first is_slash text)
before_lowered text = rw (place_lowered text) (take-map to_ascii_lowercase (position_or_len is_slash text) text)

after_lowered : (text : List ℕ) → after_first is_slash (str_to_ascii_lowercase text) ≡ str_to_ascii_lowercase (after_first is_slash text)
after_lowered text = rw (place_lowered text) (drop-map to_ascii_lowercase (position_or_len is_slash text + 1) text)

essence_lowered : (text : List ℕ) → is_essence (str_to_ascii_lowercase text) ≡ is_essence text
essence_lowered text =
    rw (has_slash_lowered text, before_lowered text, after_lowered text, token_lowered (before_first is_slash text), token_lowered (after_first is_slash text)) refl

pub kept_lowered : (essence : List ℕ) (params : List Pair) → is_essence essence ≡ true → AreKeptParameters params → IsKept (str_to_ascii_lowercase essence) params
kept_lowered essence params is kept = record {
  reads = rw (essence_lowered essence, is, lowered_twice essence) refl;
  each = kept;
}

-- what is kept has a slash

essence_step : (essence : List ℕ) (params : List Pair) (t : Bool) → is_essence essence ≡ t
    → cond t (Some (of_essence (str_to_ascii_lowercase essence) params)) None ≡ Some (of_essence essence params) → is_essence essence ≡ true
essence_step essence params true is e = is
essence_step essence params false is e = absurd (cc)

pub kept_essence : (essence : List ℕ) (params : List Pair) → IsKept essence params → is_essence essence ≡ true
kept_essence essence params kept = essence_step essence params (is_essence essence) refl kept.reads

pub kept_back : (essence : List ℕ) (params : List Pair) → IsKept essence params → essence_of (of_essence essence params) ≡ essence
kept_back essence params kept =
    essence_back essence params (and_left (list_any is_slash essence) _ (kept_essence essence params kept))

-- parameters that are read are kept

no_equals : is_token_byte 61 ≡ false
unfolding is_token_byte
no_equals = refl

value_kept : (name value : List ℕ) (t : Bool) → bytes_eq name (codes "charset") ≡ t
    → cond t (str_to_ascii_lowercase (cond t (str_to_ascii_lowercase value) value)) (cond t (str_to_ascii_lowercase value) value) ≡ cond t (str_to_ascii_lowercase value) value
value_kept name value true e = lowered_twice value
value_kept name value false e = refl

-- a parameter whose name is a token in lower case reads as itself, where its value is a token
reads_back : (name value : List ℕ) → is_token name ≡ true → str_to_ascii_lowercase name ≡ name → is_token value ≡ true
    → parameter_of (name ++ 61 ∷ value) ≡ Some (parameter name value)
reads_back name value is_name lower is_value =
    let none : list_any is_equals name ≡ false = none_in 61 name no_equals (token_bytes name is_name) in
    let there : list_any is_equals (name ++ 61 ∷ value) ≡ true = rw (list_any-append is_equals name (61 ∷ value)) (or_true (list_any is_equals name)) in
    let place : position_or_len is_equals (name ++ 61 ∷ value) ≡ length name = stop is_equals name 61 value none refl in
    rw (there, place, take-append_seam name (61 ∷ value), drop-append-add name (61 ∷ value) 1, is_name, is_value, lower) refl

abbrev of_parts : List ℕ → List ℕ → Pair
of_parts name value = record { name = name; value = value }

kept_parameter : (name value : List ℕ) → is_token name ≡ true → IsKeptParameter (parameter (str_to_ascii_lowercase name) value)
kept_parameter name value is_name =
    let small = str_to_ascii_lowercase name in
    let token : is_token small ≡ true = token_lowered name ∙ is_name in
    record {
      name = token;
      reads = λ is_value. reads_back small (parameter small value).value token (lowered_twice name) is_value
          ∙ ap (λ v. Some (of_parts small v)) (value_kept small value (bytes_eq small (codes "charset")) refl);
    }

value_step : (name : List ℕ) (value : Option (List ℕ)) (p : Pair) → is_token name ≡ true → option_map (parameter (str_to_ascii_lowercase name)) value ≡ Some p → IsKeptParameter p
value_step name None p is_name e = absurd (cc)
value_step name (Some value) p is_name e =
    let same : parameter (str_to_ascii_lowercase name) value ≡ p = cc in
    rw (← same) (kept_parameter name value is_name)

test_step : (name : List ℕ) (has : Bool) (value : Option (List ℕ)) (p : Pair) (t : Bool) → (has && is_token name) ≡ t
    → cond t (option_map (parameter (str_to_ascii_lowercase name)) value) None ≡ Some p → IsKeptParameter p
test_step name has value p true is e = value_step name value p (and_right has (is_token name) is) e
test_step name has value p false is e = absurd (cc)

read_kept : (piece : List ℕ) (p : Pair) → parameter_of piece ≡ Some p → IsKeptParameter p
read_kept piece p e =
    test_step (before_first is_equals piece) (list_any is_equals piece) (parameter_value (after_first is_equals piece)) p
    (list_any is_equals piece && is_token (before_first is_equals piece)) refl e

both_step : (first : Option Pair) (more : Option (List Pair)) (params : List Pair) → and_parameters first more ≡ Some params
    → ((p : Pair) → first ≡ Some p → IsKeptParameter p) → ((ps : List Pair) → more ≡ Some ps → AreKeptParameters ps) → AreKeptParameters params
both_step None more params e one rest = absurd (cc)
both_step (Some p) None params e one rest = absurd (cc)
both_step (Some p) (Some ps) params e one rest =
    let same : p ∷ ps ≡ params = cc in
    rw (← same) (one p refl, rest ps refl)

nothing_kept : (params : List Pair) → Some [] ≡ Some params → AreKeptParameters params
nothing_kept params e = let same : [] ≡ params = cc in rw (← same) tt

last_step : (last : List ℕ) (params : List Pair) (t : Bool) → cond t (Some []) (and_parameters (parameter_of last) (Some [])) ≡ Some params → AreKeptParameters params
last_step last params true e = nothing_kept params e
last_step last params false e = both_step (parameter_of last) (Some []) params e (read_kept last) nothing_kept

pub parameters_kept : (pieces : List (List ℕ)) (params : List Pair) → parameters_of pieces ≡ Some params → AreKeptParameters params
parameters_kept [] params e = nothing_kept params e
parameters_kept (last ∷ []) params e = last_step (without_front last) params (is_empty (without_front last)) e
parameters_kept (piece ∷ next ∷ more) params e =
    both_step (parameter_of (trimmed piece)) (parameters_of (next ∷ more)) params e (read_kept (trimmed piece)) (parameters_kept (next ∷ more))
