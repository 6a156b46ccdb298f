-- Media types by the ends of names.
use Rattle.std.specs.Prelude.{ℕ, ◌&&◌, Bool, true, List, [], ◌∷◌, codes, map}
use Rattle.std.specs.Borrow.{Bor}
use Rattle.std.specs.Prelude.{Option, None, Some, if◌then◌else◌}
use Rattle.std.specs.Str.{str_eq_ignore_ascii_case}
use Rattle.http_header.specs.FieldValue.{is_visible_text}
use Rattle.web_texts.specs.Cut.{split_at_last}
use Rattle.web_folders.specs.declared.media_type.TheConstants.{MEDIA_TYPES}

abbrev pub second_or_empty : Option (List ℕ × List ℕ) → List ℕ
second_or_empty None = []
second_or_empty (Some parts) = parts.1

-- the text after the last dot
abbrev pub extension_of : List ℕ → List ℕ
extension_of path = second_or_empty (split_at_last 46 path)

-- an extension and its media type
abbrev pub Row : Type 0
Row = List ℕ × List ℕ

-- rows of borrowed texts
abbrev pub plain_rows : List (Bor (List ℕ) × Bor (List ℕ)) → List Row
plain_rows rows = map (λ row. (row.0.now, row.1.now)) rows

-- the media type of the first row with this extension, in any ASCII case
abbrev pub media_type_in : List Row → List ℕ → List ℕ
media_type_in [] extension = codes "application/octet-stream"
media_type_in (row ∷ more) extension =
    if str_eq_ignore_ascii_case extension row.0 then row.1 else media_type_in more extension

-- by the rows of the table
unfoldable pub media_type_of : List ℕ → List ℕ
media_type_of path =
    media_type_in (map (λ row. (row.0.now, row.1.now)) MEDIA_TYPES) (extension_of path)

-- each media type is visible ASCII
abbrev pub are_visible : List Row → Bool
are_visible [] = true
are_visible (row ∷ more) = is_visible_text row.1 && are_visible more
