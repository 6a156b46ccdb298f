-- If-Match and If-None-Match (RFC 9110, sections 13.1.1 and 13.1.2).
use Rattle.std.specs.Prelude.{ℕ, ◌==◌, Bool, true, false, List, [], ◌∷◌, codes}
use Rattle.std.specs.Prelude.{Option, None, Some, if◌then◌else◌}
use Rattle.std.specs.Option.{option_map}
use Rattle.std.specs.Str.{bytes_eq}
use Rattle.web_texts.specs.Blanks.{trimmed}
use Rattle.web_texts.specs.Pieces.{Rule}
use Rattle.web_texts.specs.HeaderTexts.{first_text_of}
use Rattle.web_headers.specs.HeaderReaders.{piece_list_of}
use Rattle.web_headers.specs.PrintedLists.{comma_joined}
use Rattle.web_entities.specs.EntityTags.{Tag, tag_of, tag_text}
use Rattle.web_entities.specs.declared.tag_list.Quotes.{Quotes}
use Rattle.web_entities.specs.declared.tag_list.Quotes.TheVariants.{Even, Odd}
use Rattle.web_entities.specs.declared.if_match.IfMatch.{IfMatch}
use Rattle.web_entities.specs.declared.if_match.IfMatch.TheVariants as if_match
use Rattle.web_entities.specs.declared.if_none_match.IfNoneMatch.{IfNoneMatch}
use Rattle.web_entities.specs.declared.if_none_match.IfNoneMatch.TheVariants as if_none_match

abbrev pub next_quotes : Quotes → ℕ → Quotes
next_quotes Even b = if b == 34 then Odd else Even
next_quotes Odd b = if b == 34 then Even else Odd

abbrev pub is_even : Quotes → Bool
is_even Even = true
is_even Odd = false

-- A comma after an odd number of double quotes does not cut.
abbrev pub outside_quotes : Rule Quotes
outside_quotes = record { mark = 44; cuts = is_even; next = next_quotes; start = Even }

-- The tags of all values; what is no tag is left out.
abbrev pub tag_list_of : List (List ℕ) → Option (List Tag)
tag_list_of values = piece_list_of outside_quotes tag_of values

abbrev pub is_star : Option (List ℕ) → Bool
is_star None = false
is_star (Some text) = bytes_eq (trimmed text) (42 ∷ [])

-- the first value is `*`
abbrev pub is_any : List (List ℕ) → Bool
is_any values = is_star (first_text_of values)

abbrev pub if_match_of : List (List ℕ) → Option IfMatch
if_match_of values =
    if is_any values then Some if_match.Any
    else option_map if_match.Items (tag_list_of values)

abbrev pub if_none_match_of : List (List ℕ) → Option IfNoneMatch
if_none_match_of values =
    if is_any values then Some if_none_match.Any
    else option_map if_none_match.Items (tag_list_of values)

abbrev pub if_match_text : IfMatch → List ℕ
if_match_text if_match.Any = codes "*"
if_match_text (if_match.Items tags) = comma_joined tag_text tags

abbrev pub if_none_match_text : IfNoneMatch → List ℕ
if_none_match_text if_none_match.Any = codes "*"
if_none_match_text (if_none_match.Items tags) = comma_joined tag_text tags
