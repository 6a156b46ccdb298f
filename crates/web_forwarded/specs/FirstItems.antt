-- The first item of a header.
use Rattle.std.specs.Prelude.{ℕ, List, Option, None, Some}
use Rattle.std.specs.Option.{option_map}
use Rattle.http_header.specs.FieldValue.{FieldValue}
use Rattle.http_header.specs.HeaderMap.{Entries}
use Rattle.web_texts.specs.Blanks.{trimmed}
use Rattle.web_texts.specs.Cut.{split_once}
use Rattle.web_texts.specs.HeaderTexts.{first_text}

abbrev pub front_or_all : List ℕ → Option (List ℕ × List ℕ) → List ℕ
front_or_all text None = text
front_or_all text (Some halves) = halves.0

-- the text before the first occurrence of a byte, or all of it where there is none
abbrev pub before_byte : ℕ → List ℕ → List ℕ
before_byte byte text = front_or_all text (split_once byte text)

-- the first value of a name up to its first comma, trimmed, if there is one and it is header text
abbrev pub first_item : Entries FieldValue → List ℕ → Option (List ℕ)
first_item fields name = option_map (λ text. trimmed (before_byte 44 text)) (first_text fields name)
