-- The head of a part (RFC 7578, section 4): its fields, and what they say.
use Rattle.std.specs.Prelude.{ℕ, zero, suc, ◌+◌, ◌&&◌, Bool, List, [], ◌∷◌, length, take, drop}
use Rattle.std.specs.Prelude.{nat_le, nat_lt, codes, Option, None, Some, if◌then◌else◌}
use Rattle.std.specs.Option.{option_map, option_and_then}
use Rattle.std.specs.List.{list_all}
use Rattle.std.specs.Str.{bytes_eq}
use Rattle.http_header.specs.FieldValue.{FieldValue, plain_value}
use Rattle.http_header.specs.Token.{is_token_byte, is_value_byte, lowercase}
use Rattle.web_texts.specs.Blanks.{trimmed}
use Rattle.web_texts.specs.Cut.{split_once}
use Rattle.web_texts.specs.PieceItems.{is_empty}
use Rattle.web_texts.specs.MediaTypes.{MediaType, media_type_of}
use Rattle.web_texts.specs.HeaderTexts.{header_text_of}
use Rattle.web_entities.specs.Dispositions.{raw_disposition_of}
use Rattle.web_entities.specs.DispositionParts.{filename_of, first_match, is_form_data, name_of}
use Rattle.web_entities.specs.declared.content_disposition.ContentDisposition.{ContentDisposition}
use Rattle.web_multipart_parts.specs.Places.{place_of}
use Rattle.web_multipart_parts.specs.declared.part_head.HeadField.{HeadField}
use Rattle.web_multipart_parts.specs.declared.part_head.PartHead.{PartHead}

-- the end of a line
abbrev pub crlf : List ℕ
crlf = 13 ∷ 10 ∷ []

-- a field's name in any case, and its value (RFC 9110, sections 5.1 and 5.5)
unfoldable pub is_name : List ℕ → Bool
is_name text = (nat_lt 0 (length text) && list_all is_token_byte text) && nat_le (length text) 65535

unfoldable pub is_value : List ℕ → Bool
is_value text = list_all is_value_byte text

-- the field of a name and a value, if they are such
abbrev pub field_of_parts : List ℕ × List ℕ → Option HeadField
field_of_parts parts =
    if is_name parts.0 && is_value (trimmed parts.1)
    then Some (record { name = lowercase parts.0; value = plain_value (trimmed parts.1) })
    else None

-- a name, a colon, and a value without the blanks round it
abbrev pub field_of : List ℕ → Option HeadField
field_of line = option_and_then field_of_parts (split_once 58 line)

abbrev pub and_fields : Option HeadField → Option (List HeadField) → Option (List HeadField)
and_fields first rest = option_and_then (λ f. option_map (λ fs. f ∷ fs) rest) first

-- the first line, and what follows its end
unfoldable pub line_parts : List ℕ → Option (List ℕ × List ℕ)
line_parts text = option_map (λ n. (take n text, drop (n + 2) text)) (place_of crlf text)

-- the field of a line, and then the rest; an empty line ends the fields
abbrev pub fields_from : (List ℕ → Option (List HeadField)) → Option (List ℕ × List ℕ)
    → Option (List HeadField)
fields_from rest None = None
fields_from rest (Some line) =
    if is_empty line.0 then Some [] else and_fields (field_of line.0) (rest line.1)

-- the fields up to the empty line, at most so many
unfoldable pub fields_in : ℕ → List ℕ → Option (List HeadField)
fields_in zero text = fields_from (λ rest. None) (line_parts text)
fields_in (suc n) text = fields_from (fields_in n) (line_parts text)

-- the value of the first field of this name
abbrev pub field_value : List ℕ → List HeadField → Option FieldValue
field_value name [] = None
field_value name (f ∷ fields) =
    if bytes_eq f.name name then Some f.value else field_value name fields

abbrev pub form_name : ContentDisposition → Option (List ℕ)
form_name d = if is_form_data d.disposition then first_match name_of d.parameters else None

-- a field that is not there says nothing; one that is there is a media type
abbrev pub type_field : Option FieldValue → Option (Option MediaType)
type_field None = Some None
type_field (Some value) =
    option_map (λ m. Some m) (option_and_then media_type_of (header_text_of value.bytes))

abbrev pub named_head : ContentDisposition → List ℕ → Option MediaType → PartHead
named_head d name media_type = record {
  name = name;
  filename = first_match filename_of d.parameters;
  media_type = media_type;
}

-- form data with a name (section 4.2), and the media type, if there is one (section 4.4)
abbrev pub head_of_disposition : Option FieldValue → ContentDisposition → Option PartHead
head_of_disposition media_type d =
    option_and_then (λ name. option_map (named_head d name) (type_field media_type)) (form_name d)

abbrev pub head_of_values : Option FieldValue → Option FieldValue → Option PartHead
head_of_values disposition media_type =
    option_and_then
    (λ value. option_and_then (head_of_disposition media_type) (raw_disposition_of value.bytes))
    disposition

abbrev pub head_of_fields : List HeadField → Option PartHead
head_of_fields fields =
    head_of_values (field_value (codes "content-disposition") fields)
    (field_value (codes "content-type") fields)

-- the head of its lines and the empty line after them, of at most 16 lines
abbrev pub part_head_of : List ℕ → Option PartHead
part_head_of text = option_and_then head_of_fields (fields_in 16 text)
