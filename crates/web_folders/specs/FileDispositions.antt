-- How a file is to be shown or saved (RFC 6266).
use Rattle.std.specs.Prelude.{ℕ, ◌||◌, Bool, false, List, [], ◌∷◌, codes}
use Rattle.std.specs.Prelude.{Option, None, Some, if◌then◌else◌}
use Rattle.std.specs.Char.{is_ascii}
use Rattle.std.specs.List.{list_all}
use Rattle.std.specs.Str.{bytes_eq}
use Rattle.http_header.specs.FieldValue.{FieldValue}
use Rattle.web_docs.specs.Documents.{field_value_of}
use Rattle.web_texts.specs.Cut.{split_at_last, split_once}
use Rattle.web_texts.specs.declared.grammar.extended_value.ExtendedValue.{ExtendedValue}
use Rattle.web_entities.specs.DispositionTexts.{disposition_text}
use Rattle.web_entities.specs.declared.content_disposition.ContentDisposition.{ContentDisposition}
use Rattle.web_entities.specs.declared.content_disposition.DispositionType.{DispositionType}
use Rattle.web_entities.specs.declared.content_disposition.DispositionType.TheVariants as kind
use Rattle.web_entities.specs.declared.disposition_param.DispositionParam.{DispositionParam}
use Rattle.web_entities.specs.declared.disposition_param.DispositionParam.TheVariants as param
use Rattle.web_folders.specs.FileMediaTypes.{media_type_of}

abbrev pub second_or_all : List ℕ → Option (List ℕ × List ℕ) → List ℕ
second_or_all path None = path
second_or_all path (Some parts) = parts.1

-- the last name of a path
abbrev pub file_name : List ℕ → List ℕ
file_name path = second_or_all path (split_at_last 47 path)

-- text, images, audio and video, and of applications JSON and WebAssembly
abbrev pub is_shown_type : List ℕ → List ℕ → Bool
is_shown_type type_ media_type =
    bytes_eq type_ (codes "text") || (bytes_eq type_ (codes "image")
    || (bytes_eq type_ (codes "audio") || (bytes_eq type_ (codes "video")
    || (bytes_eq media_type (codes "application/json")
    || bytes_eq media_type (codes "application/wasm")))))

abbrev pub shown_by : List ℕ → Option (List ℕ × List ℕ) → Bool
shown_by media_type None = false
shown_by media_type (Some parts) = is_shown_type parts.0 media_type

-- a browser shows content of this type, and does not save it
abbrev pub is_shown : List ℕ → Bool
is_shown media_type = shown_by media_type (split_once 47 media_type)

abbrev pub disposition_type : List ℕ → DispositionType
disposition_type media_type = if is_shown media_type then kind.Inline else kind.Attachment

abbrev pub utf8_value : List ℕ → ExtendedValue
utf8_value name = record { charset = codes "UTF-8"; language_tag = None; value = name }

-- the name as `filename`, and beside it as `filename*` if it is not ASCII
abbrev pub filename_params : List ℕ → List DispositionParam
filename_params name =
    if list_all is_ascii name then param.Filename name ∷ []
    else param.Filename name ∷ param.FilenameExt (utf8_value name) ∷ []

-- by the media type and the last name of a path
abbrev pub file_disposition : List ℕ → ContentDisposition
file_disposition path = record {
  disposition = disposition_type (media_type_of path);
  parameters = filename_params (file_name path);
}

-- the value of Content-Disposition; none where no header can have the name
abbrev pub disposition_value : List ℕ → Option FieldValue
disposition_value path = field_value_of (disposition_text (file_disposition path))
