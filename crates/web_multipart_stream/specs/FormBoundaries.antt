-- The boundary that the head of a request names (RFC 7578, section 4.1; RFC 2046, section 5.1.1).
use Rattle.std.specs.Prelude.{ℕ, ◌-◌, ◌==◌, ◌&&◌, Bool, not, List, length, slice_index, codes}
use Rattle.std.specs.Prelude.{nat_le, Option, None, Some, Result, Ok, Err, if◌then◌else◌}
use Rattle.std.specs.List.{list_all}
use Rattle.std.specs.Option.{option_and_then}
use Rattle.std.specs.Str.{bytes_eq}
use Rattle.http_header.specs.FieldValue.{FieldValue}
use Rattle.http_header.specs.HeaderMap.{Entries}
use Rattle.web_texts.specs.MediaTypes.{MediaType, essence_of, param_value}
use Rattle.web_texts.specs.declared.errors.ContentTypeError.{ContentTypeError}
use Rattle.web_request.specs.MessageFields.{mime_type_of}

-- printable ASCII, or a space
abbrev pub is_boundary_byte : ℕ → Bool
is_boundary_byte b = nat_le 32 b && nat_le b 126

-- 1 to 70 bytes, the last of which is no space
abbrev pub is_boundary : List ℕ → Bool
is_boundary bytes =
    nat_le 1 (length bytes) && nat_le (length bytes) 70 && list_all is_boundary_byte bytes
    && not (slice_index bytes (length bytes - 1) == 32)

abbrev pub if_boundary : List ℕ → Option (List ℕ)
if_boundary bytes = if is_boundary bytes then Some bytes else None

-- the first parameter `boundary` of `multipart/form-data`
abbrev pub boundary_in : MediaType → Option (List ℕ)
boundary_in media_type =
    if bytes_eq (essence_of media_type) (codes "multipart/form-data")
    then option_and_then if_boundary (param_value (codes "boundary") media_type)
    else None

abbrev pub readable : Result (Option MediaType) ContentTypeError → Option MediaType
readable (Ok media_type) = media_type
readable (Err error) = None

-- the boundary of a body, by its first Content-Type
abbrev pub boundary_of : Entries FieldValue → Option (List ℕ)
boundary_of headers = option_and_then boundary_in (readable (mime_type_of headers))
