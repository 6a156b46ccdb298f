-- Media types.
use Rattle.std.specs.Prelude.{◌≡◌, ℕ, ◌-◌, ◌==◌, Bool, not, ◌&&◌, List, [], ◌∷◌, ◌++◌, length, take}
use Rattle.std.specs.Prelude.{drop, slice_index, codes, Option, None, Some, Result, Ok, Err}
use Rattle.std.specs.Prelude.{if◌then◌else◌}
use Rattle.std.specs.Option.{option_map, option_and_then}
use Rattle.std.specs.List.{list_any, before_first, after_first, before_last, after_last}
use Rattle.std.specs.Ordering.{on, eq_of_both}
use Rattle.std.specs.Cmp.Lexicographic.{pointwise}
use Rattle.std.specs.Str.{bytes_eq, str_to_ascii_lowercase, str_eq_ignore_ascii_case}
use Rattle.web_texts.specs.Bytes.{is_equals}
use Rattle.web_texts.specs.Blanks.{trimmed, without_front, without_end}
use Rattle.web_texts.specs.PieceItems.{is_empty, with_front}
use Rattle.web_texts.specs.Pieces.{pieces}
use Rattle.web_texts.specs.QuotedText.{is_closed, unescaped}
use Rattle.web_texts.specs.Tokens.{is_token}
use Rattle.web_texts.specs.ParameterPlaces.{semicolons}
use Rattle.web_texts.specs.Pairs.{Pair, pair_eq}
use Rattle.web_texts.specs.declared.memory.Fail.{Fail}
use Rattle.web_texts.specs.declared.memory.Fail.TheVariants as fail
use Rattle.web_texts.specs.declared.grammar.parameters.Quoting.TheVariants.{Outside}

pub record MediaType : Type 0 where
  pub type_ : List ℕ
  pub subtype : List ℕ
  pub suffix : Option (List ℕ)
  pub params : List Pair

abbrev pub is_slash : ℕ → Bool
is_slash b = b == 47

abbrev pub is_plus : ℕ → Bool
is_plus b = b == 43

-- a token, or text between quotes
abbrev pub parameter_value : List ℕ → Option (List ℕ)
parameter_value text =
    if is_token text then Some text
    else if slice_index text 0 == 34 && is_closed (drop 1 text)
    then Some (unescaped (take (length (drop 1 text) - 1) (drop 1 text)))
    else None

-- A charset is kept in lower case, and every other value as it is.
abbrev pub parameter : List ℕ → List ℕ → Pair
parameter name value = record {
  name = name;
  value = if bytes_eq name (codes "charset") then str_to_ascii_lowercase value else value;
}

-- A name, an equals sign, and a value. The name is kept in lower case.
abbrev pub parameter_of : List ℕ → Option Pair
parameter_of piece =
    if list_any is_equals piece && is_token (before_first is_equals piece)
    then option_map (parameter (str_to_ascii_lowercase (before_first is_equals piece)))
    (parameter_value (after_first is_equals piece))
    else None

abbrev pub and_parameters : Option Pair → Option (List Pair) → Option (List Pair)
and_parameters first more = option_and_then (λ p. option_map (λ ps. p ∷ ps) more) first

-- The parameters of the pieces after the first. Blanks may stand round a semicolon, and nothing
-- after the last one.
abbrev pub parameters_of : List (List ℕ) → Option (List Pair)
parameters_of [] = Some []
parameters_of (last ∷ []) =
    if is_empty (without_front last) then Some []
    else and_parameters (parameter_of (without_front last)) (Some [])
parameters_of (piece ∷ next ∷ more) =
    and_parameters (parameter_of (trimmed piece)) (parameters_of (next ∷ more))

-- A piece was read, whatever parameters follow it: its parameter stands at the end, or the piece
-- has none.
abbrev pub AddsParameter : {U E : Type 0} → List ℕ → List Pair → List Pair → Result U (Fail E)
    → Type 0
AddsParameter piece old new (Ok done) = (more : Option (List Pair))
    → with_front new more ≡ with_front old (and_parameters (parameter_of piece) more)
AddsParameter piece old new (Err fail.NoMemory) = Unit {0}
AddsParameter piece old new (Err (fail.Of e)) = parameter_of piece ≡ None

-- something stands on both sides of the last plus sign
abbrev pub has_suffix : List ℕ → Bool
has_suffix second = list_any is_plus second
    && (not (is_empty (before_last is_plus second)) && not (is_empty (after_last is_plus second)))

abbrev pub subtype_of : List ℕ → List ℕ
subtype_of second = if has_suffix second then before_last is_plus second else second

abbrev pub suffix_of : List ℕ → Option (List ℕ)
suffix_of second = if has_suffix second then Some (after_last is_plus second) else None

-- the media type of a type, a slash and a second token, with these parameters
abbrev pub of_essence : List ℕ → List Pair → MediaType
of_essence essence params = record {
  type_ = before_first is_slash essence;
  subtype = subtype_of (after_first is_slash essence);
  suffix = suffix_of (after_first is_slash essence);
  params = params;
}

abbrev pub is_essence : List ℕ → Bool
is_essence text = list_any is_slash text
    && (is_token (before_first is_slash text) && is_token (after_first is_slash text))

-- Types, subtypes and suffixes are kept in lower case.
abbrev pub with_parameters : List ℕ → List Pair → Option MediaType
with_parameters essence params =
    if is_essence essence then Some (of_essence (str_to_ascii_lowercase essence) params) else None

abbrev pub media_type_of_pieces : List (List ℕ) → Option MediaType
media_type_of_pieces [] = None
media_type_of_pieces (essence ∷ []) = with_parameters essence []
media_type_of_pieces (essence ∷ next ∷ more) =
    option_and_then (with_parameters (without_end essence)) (parameters_of (next ∷ more))

-- the media type of a text: a type, a slash, a subtype, and parameters after semicolons
abbrev pub media_type_of : List ℕ → Option MediaType
media_type_of text = media_type_of_pieces (pieces semicolons Outside text)

abbrev pub suffix_text : Option (List ℕ) → List ℕ
suffix_text None = []
suffix_text (Some suffix) = 43 ∷ suffix

-- the type, a slash, the subtype and, after a plus sign, the suffix
abbrev pub essence_of : MediaType → List ℕ
essence_of m = m.type_ ++ 47 ∷ (m.subtype ++ suffix_text m.suffix)

-- Names are compared in any ASCII case.
unfoldable pub is_named : List ℕ → Pair → Bool
is_named name p = str_eq_ignore_ascii_case p.name name

-- the value of the first parameter of this name
abbrev pub value_in : List ℕ → List Pair → Option (List ℕ)
value_in name [] = None
value_in name (p ∷ more) =
    if is_named name p then Some p.value else value_in name more

abbrev pub param_value : List ℕ → MediaType → Option (List ℕ)
param_value name m = value_in name m.params

abbrev pub charset_of : MediaType → Option (List ℕ)
charset_of m = param_value (codes "charset") m

-- the same essence, and the same parameters in the same order
abbrev pub media_type_eq : MediaType → MediaType → Bool
media_type_eq = eq_of_both (on essence_of bytes_eq) (on (λ m. m.params) (pointwise pair_eq))
