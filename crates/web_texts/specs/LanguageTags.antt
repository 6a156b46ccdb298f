-- Language tags. Of RFC 5646, section 2.1, only this is asked: subtags of 1 to 8 letters or digits
-- with `-` between them, the first one of letters.
use Rattle.std.specs.Prelude.{ℕ, ◌==◌, ◌&&◌, Bool, false, List, length, nat_lt}
use Rattle.std.specs.Prelude.{Option, None, Some, if◌then◌else◌}
use Rattle.std.specs.List.{list_all, before_first, slice_split}
use Rattle.std.specs.Char.{is_ascii_alphabetic, is_ascii_alphanumeric}

abbrev pub is_hyphen : ℕ → Bool
is_hyphen b = b == 45

abbrev pub is_subtag : List ℕ → Bool
is_subtag text =
    if length text == 0 then false
    else if nat_lt 8 (length text) then false
    else list_all is_ascii_alphanumeric text

abbrev pub is_language_tag : List ℕ → Bool
is_language_tag text =
    list_all is_ascii_alphabetic (before_first is_hyphen text)
    && list_all is_subtag (slice_split is_hyphen text)

-- a tag keeps its text as it stands
abbrev pub language_tag_of : List ℕ → Option (List ℕ)
language_tag_of text = if is_language_tag text then Some text else None
