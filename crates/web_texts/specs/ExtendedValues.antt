-- Extended values (RFC 5987, section 3.2; RFC 8187): a charset, a language, and a value in
-- percent-encoding, with `'` between them. Every charset is read, also an empty one.
use Rattle.std.specs.Prelude.{ℕ, ◌==◌, ◌||◌, Bool, List, [], ◌∷◌, ◌++◌, length, codes, flat_map}
use Rattle.std.specs.Prelude.{Option, None, Some, if◌then◌else◌}
use Rattle.std.specs.Option.{option_map, option_and_then}
use Rattle.std.specs.List.{list_any}
use Rattle.std.specs.Char.{is_ascii_alphanumeric}
use Rattle.std.specs.Str.{str_to_ascii_uppercase}
use Rattle.percent_encoding.specs.Percent.{percent_decode, percent_encode_byte}
use Rattle.web_texts.specs.Cut.{split_once}
use Rattle.web_texts.specs.LanguageTags.{language_tag_of}
use Rattle.web_texts.specs.declared.grammar.extended_value.ExtendedValue.{ExtendedValue}

-- no language, or a language tag
abbrev pub optional_tag_of : List ℕ → Option (Option (List ℕ))
optional_tag_of text =
    if length text == 0 then Some None else option_map (λ tag. Some tag) (language_tag_of text)

abbrev pub value_behind : List ℕ → List ℕ → Option ExtendedValue
value_behind charset rest = option_and_then (λ parts. option_map (λ tag. record {
  charset = str_to_ascii_uppercase charset;
  language_tag = tag;
  value = percent_decode parts.1;
}) (optional_tag_of parts.0)) (split_once 39 rest)

-- the text up to the first `'`, that up to the second one, and the rest
abbrev pub extended_value_of : List ℕ → Option ExtendedValue
extended_value_of text =
    option_and_then (λ parts. value_behind parts.0 parts.1) (split_once 39 text)

-- the RFC's attr-char
unfoldable pub is_attr_char : ℕ → Bool
is_attr_char b = is_ascii_alphanumeric b || list_any (λ c. c == b) (codes "!#$&+-.^_`|~")

abbrev pub escaped_byte : ℕ → List ℕ
escaped_byte b = if is_attr_char b then b ∷ [] else percent_encode_byte b

abbrev pub escaped : List ℕ → List ℕ
escaped bytes = flat_map escaped_byte bytes

abbrev pub optional_tag_text : Option (List ℕ) → List ℕ
optional_tag_text None = []
optional_tag_text (Some tag) = tag

abbrev pub extended_value_text : ExtendedValue → List ℕ
extended_value_text v = v.charset ++ 39 ∷ optional_tag_text v.language_tag ++ 39 ∷ escaped v.value
