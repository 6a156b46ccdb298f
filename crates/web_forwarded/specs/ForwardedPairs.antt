-- What the header Forwarded says (RFC 7239, section 4).
use Rattle.std.specs.Prelude.{◌≡◌, ℕ, List, [], ◌∷◌, ◌++◌, Option, None, Some, codes}
use Rattle.std.specs.Prelude.{if◌then◌else◌}
use Rattle.std.specs.List.{filter_map, flat_map, slice_split}
use Rattle.std.specs.Option.{option_or}
use Rattle.std.specs.Str.{str_eq_ignore_ascii_case}
use Rattle.http_header.specs.FieldValue.{FieldValue}
use Rattle.web_texts.specs.Bytes.{is_comma, is_semicolon, unquoted}
use Rattle.web_texts.specs.Blanks.{trimmed}
use Rattle.web_texts.specs.Cut.{split_once}
use Rattle.web_texts.specs.HeaderTexts.{header_text}

-- The pairs of a text, which is cut at semicolons and at commas, also in quotes.
abbrev pub pairs_of : List ℕ → List (List ℕ)
pairs_of text = flat_map (slice_split is_comma) (slice_split is_semicolon text)

-- the pairs of the values that are header text, in their order
abbrev pub forwarded_pairs : List FieldValue → List (List ℕ)
forwarded_pairs values = flat_map pairs_of (filter_map header_text values)

-- what the first one says that says something
abbrev pub first_said : {A T : Type 0} → (A → Option T) → List A → Option T
first_said said [] = None
first_said said (a ∷ rest) = option_or (said a) (first_said said rest)

-- the value of a pair whose name this is, in any ASCII case: trimmed, and without its quotes
abbrev pub value_under : List ℕ → List ℕ → List ℕ → Option (List ℕ)
value_under wanted name value =
    if str_eq_ignore_ascii_case name wanted then Some (unquoted (trimmed value)) else None

abbrev pub named_value : List ℕ → Option (List ℕ × List ℕ) → Option (List ℕ)
named_value wanted None = None
named_value wanted (Some halves) = value_under wanted (trimmed halves.0) halves.1

-- The value of a pair of this name. The name stands before the first `=`, and is trimmed.
abbrev pub value_of_pair : List ℕ → List ℕ → Option (List ℕ)
value_of_pair wanted pair = named_value wanted (split_once 61 pair)

-- the value of the first pair of this name
abbrev pub forwarded : List ℕ → List FieldValue → Option (List ℕ)
forwarded wanted values = first_said (value_of_pair wanted) (forwarded_pairs values)

-- What Forwarded says by the names that are read.
pub record ForwardedFields : Type 0 where
  -- of the name `for`
  pub client : Option (List ℕ)
  pub host : Option (List ℕ)
  -- of the name `proto`
  pub scheme : Option (List ℕ)

-- of each name what is found for it
abbrev pub fields_by : (List ℕ → Option (List ℕ)) → ForwardedFields
fields_by find = record {
  client = find (codes "for");
  host = find (codes "host");
  scheme = find (codes "proto");
}

-- of each name the value of its first pair
abbrev pub said_by : List (List ℕ) → ForwardedFields
said_by pairs = fields_by (λ wanted. first_said (value_of_pair wanted) pairs)

-- Where the first is what some pairs say, the second is what they say with these after them.
abbrev pub GoesOn : ForwardedFields → List (List ℕ) → ForwardedFields → Type 0
GoesOn said pairs next = (front : List (List ℕ)) → said ≡ said_by front
    → next ≡ said_by (front ++ pairs)
