-- The headers of one value that are no dates: what their values say.
use Rattle.std.specs.Prelude.{ℕ, List, Option}
use Rattle.std.specs.Option.{option_and_then}
use Rattle.web_texts.specs.Blanks.{trimmed}
use Rattle.web_texts.specs.Digits.{digits_up_to}
use Rattle.web_texts.specs.MediaTypes.{MediaType, media_type_of}
use Rattle.web_texts.specs.HeaderTexts.{first_text_of}
use Rattle.web_headers.specs.HeaderReaders.{one_value_of}

-- digits alone, up to 2^64 - 1, with blanks around them
abbrev pub length_of : List ℕ → Option ℕ
length_of text = digits_up_to 18446744073709551615 (trimmed text)

-- Content-Length (RFC 9110, section 8.6)
abbrev pub content_length_of : List (List ℕ) → Option ℕ
content_length_of values = option_and_then length_of (first_text_of values)

-- Content-Type (section 8.3)
abbrev pub content_type_of : List (List ℕ) → Option MediaType
content_type_of values = one_value_of media_type_of values
