-- The text that a disposition prints.
use Rattle.std.specs.Prelude.{ℕ, ◌==◌, ◌||◌, ◌&&◌, Bool, List, [], ◌∷◌, ◌++◌, flat_map, codes}
use Rattle.std.specs.Prelude.{encode_utf8, nat_le, if◌then◌else◌}
use Rattle.std.specs.Str.{chars}
use Rattle.web_texts.specs.ExtendedValues.{extended_value_text}
use Rattle.web_entities.specs.declared.disposition_param.DispositionParam.{DispositionParam}
use Rattle.web_entities.specs.declared.disposition_param.DispositionParam.TheVariants as param
use Rattle.web_entities.specs.declared.content_disposition.DispositionType.{DispositionType}
use Rattle.web_entities.specs.declared.content_disposition.DispositionType.TheVariants as kind
use Rattle.web_entities.specs.declared.content_disposition.ContentDisposition.{ContentDisposition}

-- 0x00 to 0x08, 0x10 to 0x1F, 0x7F, a quote and a backslash
unfoldable pub is_escaped : ℕ → Bool
is_escaped c =
    nat_le c 8 || ((nat_le 16 c && nat_le c 31) || (c == 127 || (c == 34 || c == 92)))

abbrev pub escaped_char : ℕ → List ℕ
escaped_char c = if is_escaped c then 92 ∷ encode_utf8 c else encode_utf8 c

abbrev pub in_quotes_text : List ℕ → List ℕ
in_quotes_text text = 34 ∷ [] ++ flat_map escaped_char (chars text) ++ 34 ∷ []

abbrev pub param_text : DispositionParam → List ℕ
param_text (param.Name value) = codes "; name=" ++ value
param_text (param.Filename value) = codes "; filename=" ++ in_quotes_text value
param_text (param.Unknown name value) =
    codes "; " ++ name ++ codes "=" ++ in_quotes_text value
param_text (param.FilenameExt value) = codes "; filename*=" ++ extended_value_text value
param_text (param.UnknownExt name value) =
    codes "; " ++ name ++ codes "*=" ++ extended_value_text value

abbrev pub type_text : DispositionType → List ℕ
type_text kind.Inline = codes "inline"
type_text kind.Attachment = codes "attachment"
type_text kind.FormData = codes "form-data"
type_text (kind.Ext name) = name

abbrev pub disposition_text : ContentDisposition → List ℕ
disposition_text d = type_text d.disposition ++ flat_map param_text d.parameters
