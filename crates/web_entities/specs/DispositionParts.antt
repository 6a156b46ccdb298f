-- What the parts of a disposition are, and which parameter a getter finds. Names are compared in
-- any ASCII case.
use Rattle.std.specs.Prelude.{ℕ, Bool, true, false, List, [], ◌∷◌, Option, None, Some}
use Rattle.std.specs.Prelude.{if◌then◌else◌}
use Rattle.std.specs.Option.{option_or}
use Rattle.std.specs.Str.{str_eq_ignore_ascii_case}
use Rattle.web_texts.specs.declared.grammar.extended_value.ExtendedValue.{ExtendedValue}
use Rattle.web_entities.specs.declared.disposition_param.DispositionParam.{DispositionParam}
use Rattle.web_entities.specs.declared.disposition_param.DispositionParam.TheVariants as param
use Rattle.web_entities.specs.declared.content_disposition.DispositionType.{DispositionType}
use Rattle.web_entities.specs.declared.content_disposition.DispositionType.TheVariants as kind

abbrev pub is_inline : DispositionType → Bool
is_inline kind.Inline = true
is_inline other = false

abbrev pub is_attachment : DispositionType → Bool
is_attachment kind.Attachment = true
is_attachment other = false

abbrev pub is_form_data : DispositionType → Bool
is_form_data kind.FormData = true
is_form_data other = false

abbrev pub is_ext : List ℕ → DispositionType → Bool
is_ext name (kind.Ext own) = str_eq_ignore_ascii_case own name
is_ext name other = false

abbrev pub name_of : DispositionParam → Option (List ℕ)
name_of (param.Name value) = Some value
name_of other = None

abbrev pub filename_of : DispositionParam → Option (List ℕ)
filename_of (param.Filename value) = Some value
filename_of other = None

abbrev pub unknown_of : List ℕ → DispositionParam → Option (List ℕ)
unknown_of name (param.Unknown own value) =
    if str_eq_ignore_ascii_case own name then Some value else None
unknown_of name other = None

abbrev pub filename_ext_of : DispositionParam → Option ExtendedValue
filename_ext_of (param.FilenameExt value) = Some value
filename_ext_of other = None

abbrev pub unknown_ext_of : List ℕ → DispositionParam → Option ExtendedValue
unknown_ext_of name (param.UnknownExt own value) =
    if str_eq_ignore_ascii_case own name then Some value else None
unknown_ext_of name other = None

-- what the first parameter has in which there is something
abbrev pub first_match : {T : Type 0} → (DispositionParam → Option T) → List DispositionParam
    → Option T
first_match value [] = None
first_match value (p ∷ rest) = option_or (value p) (first_match value rest)
