-- The conditions of a request for a document: RFC 7232, section 3, and RFC 7233, section 3.2 (now
-- RFC 9110, section 13.1).
use Rattle.std.specs.Prelude.{ℕ, Bool, true, false, not, List, [], ◌∷◌, nat_eq, nat_le, nat_lt}
use Rattle.std.specs.Prelude.{codes, Option, None, Some}
use Rattle.std.specs.Option.{option_and_then, option_eq, option_map, option_or}
use Rattle.http_header.specs.FieldValue.{FieldValue}
use Rattle.http_header.specs.HeaderMap.{Entries, get_all}
use Rattle.httpdate.specs.Date.{parse_secs, unix_secs}
use Rattle.httpdate.specs.declared.date.HttpDate.{HttpDate}
use Rattle.web_texts.specs.HeaderTexts.{first_text_of, header_text_of, value_bytes}
use Rattle.web_entities.specs.EntityTags.{Tag, strong_eq, tag_of}
use Rattle.web_entities.specs.ListedTags.{if_there, lists_strongly, lists_weakly}
use Rattle.web_entities.specs.TagLists.{if_match_of, if_none_match_of}
use Rattle.web_entities.specs.declared.if_match.IfMatch.{IfMatch}
use Rattle.web_entities.specs.declared.if_none_match.IfNoneMatch.{IfNoneMatch}

abbrev pub Headers : Type 0
Headers = Entries FieldValue

-- the values of a header
abbrev pub values : List ℕ → Headers → List (List ℕ)
values name headers = value_bytes (get_all headers name)

abbrev pub asked_if_match : Headers → Option IfMatch
asked_if_match headers = if_there if_match_of (values (codes "if-match") headers)

abbrev pub asked_if_none_match : Headers → Option IfNoneMatch
asked_if_none_match headers = if_there if_none_match_of (values (codes "if-none-match") headers)

-- a date, in seconds since 1970
abbrev pub seconds_of : List (List ℕ) → Option ℕ
seconds_of values = option_and_then parse_secs (first_text_of values)

-- Each condition holds or fails, where the request has it.

-- RFC 7232, section 3.1
abbrev pub if_match : Tag → Headers → Option Bool
if_match tag headers = option_map (lists_strongly tag) (asked_if_match headers)

-- section 3.2
abbrev pub if_none_match : Tag → Headers → Option Bool
if_none_match tag headers =
    option_map (λ listed. not (lists_weakly tag listed)) (asked_if_none_match headers)

-- A condition on the date counts as absent where the date of the last change is not known.

-- section 3.3: the document was changed after this second
abbrev pub if_modified_since : Option HttpDate → Headers → Option Bool
if_modified_since None headers = None
if_modified_since (Some modified) headers =
    option_map (λ date. nat_lt date (unix_secs modified))
    (seconds_of (values (codes "if-modified-since") headers))

-- section 3.4: it was not
abbrev pub if_unmodified_since : Option HttpDate → Headers → Option Bool
if_unmodified_since None headers = None
if_unmodified_since (Some modified) headers =
    option_map (λ date. nat_le (unix_secs modified) date)
    (seconds_of (values (codes "if-unmodified-since") headers))

-- The second of two conditions counts only where the request has not the first (section 6).
abbrev pub match_condition : Tag → Option HttpDate → Headers → Option Bool
match_condition tag modified headers =
    option_or (if_match tag headers) (if_unmodified_since modified headers)

abbrev pub none_match_condition : Tag → Option HttpDate → Headers → Option Bool
none_match_condition tag modified headers =
    option_or (if_none_match tag headers) (if_modified_since modified headers)

-- the text is the date of the last change, where that is known
abbrev pub is_last_change : Option HttpDate → List ℕ → Bool
is_last_change None text = false
is_last_change (Some modified) text =
    option_eq nat_eq (parse_secs text) (Some (unix_secs modified))

-- If-Range is the document's tag, both of them strong, or else the date of its last change.
abbrev pub names_version : Tag → Option HttpDate → List ℕ → Option Tag → Bool
names_version tag modified text (Some named) = strong_eq named tag
names_version tag modified text None = is_last_change modified text

abbrev pub text_names_version : Tag → Option HttpDate → Option (List ℕ) → Bool
text_names_version tag modified None = false
text_names_version tag modified (Some text) = names_version tag modified text (tag_of text)

-- RFC 7233, section 3.2: there is no If-Range, or it names this version. Here its mere presence
-- counts: one that cannot be read names none.
abbrev pub range_condition : Tag → Option HttpDate → List (List ℕ) → Bool
range_condition tag modified [] = true
range_condition tag modified (first ∷ more) =
    text_names_version tag modified (header_text_of first)
