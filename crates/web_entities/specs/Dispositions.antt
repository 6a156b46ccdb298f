-- Content-Disposition (RFC 6266, section 4).
use Rattle.std.specs.Prelude.{ℕ, ◌-◌, ◌==◌, ◌||◌, List, [], ◌∷◌, length, take, drop}
use Rattle.std.specs.Prelude.{slice_index, codes, Option, None, Some, if◌then◌else◌, ⊤}
use Rattle.std.specs.Option.{option_map, option_and_then}
use Rattle.std.specs.Str.{bytes_eq, str_eq_ignore_ascii_case, is_utf8}
use Rattle.web_texts.specs.Blanks.{trimmed}
use Rattle.web_texts.specs.Cut.{split_once}
use Rattle.web_texts.specs.ExtendedValues.{extended_value_of}
use Rattle.web_texts.specs.Pieces.{pieces}
use Rattle.web_texts.specs.PieceItems.{all_items, is_empty}
use Rattle.web_texts.specs.QuotedText.{unescaped}
use Rattle.web_texts.specs.declared.grammar.extended_value.ExtendedValue.{ExtendedValue}
use Rattle.web_entities.specs.DispositionPlaces.{in_parameters, in_quotes}
use Rattle.web_entities.specs.declared.disposition_param.DispositionParam.{DispositionParam}
use Rattle.web_entities.specs.declared.disposition_param.DispositionParam.TheVariants as param
use Rattle.web_entities.specs.declared.content_disposition.DispositionType.{DispositionType}
use Rattle.web_entities.specs.declared.content_disposition.DispositionType.TheVariants as kind
use Rattle.web_entities.specs.declared.content_disposition.ContentDisposition.{ContentDisposition}

-- `name` and `filename` are known in any case.
abbrev pub plain_param : List ℕ → List ℕ → DispositionParam
plain_param name value =
    if str_eq_ignore_ascii_case name (codes "name") then param.Name value
    else if str_eq_ignore_ascii_case name (codes "filename") then param.Filename value
    else param.Unknown name value

abbrev pub extended_param : List ℕ → ExtendedValue → DispositionParam
extended_param name value =
    if str_eq_ignore_ascii_case name (codes "filename") then param.FilenameExt value
    else param.UnknownExt name value

-- the text before the closing quote, which must be there
abbrev pub before_quote : List (List ℕ) → Option (List ℕ)
before_quote [] = None
before_quote (inner ∷ []) = None
before_quote (inner ∷ next ∷ more) = Some (unescaped inner)

abbrev pub quoted_value_of : List ℕ → Option (List ℕ)
quoted_value_of text = before_quote (pieces in_quotes in_quotes.start text)

-- Text after the closing quote is skipped.
abbrev pub plain_value_of : List ℕ → Option (List ℕ)
plain_value_of value =
    if slice_index value 0 == 34 then quoted_value_of (drop 1 value) else Some value

-- A name that ends in an asterisk has an extended value, in which a quote is like any other byte.
abbrev pub named_param : List ℕ → List ℕ → Option DispositionParam
named_param name value =
    if slice_index name (length name - 1) == 42
    then option_map (extended_param (take (length name - 1) name)) (extended_value_of value)
    else option_map (plain_param name) (plain_value_of value)

abbrev pub trimmed_param : List ℕ → List ℕ → Option DispositionParam
trimmed_param name value =
    if is_empty name || is_empty value || bytes_eq name (42 ∷ []) then None
    else named_param name value

-- a name and a value, split at the first equals sign
abbrev pub param_of : List ℕ → Option DispositionParam
param_of part = option_and_then (λ parts. trimmed_param (trimmed parts.0) (trimmed parts.1))
    (split_once 61 part)

-- The types that are known are known in any case.
abbrev pub type_of : List ℕ → DispositionType
type_of name =
    if str_eq_ignore_ascii_case name (codes "inline") then kind.Inline
    else if str_eq_ignore_ascii_case name (codes "attachment") then kind.Attachment
    else if str_eq_ignore_ascii_case name (codes "form-data") then kind.FormData
    else kind.Ext name

-- a type that is known, in which no text is kept
abbrev pub TakesNoMemory : DispositionType → Type 0
TakesNoMemory kind.Inline = ⊤
TakesNoMemory kind.Attachment = ⊤
TakesNoMemory kind.FormData = ⊤
TakesNoMemory (kind.Ext name) = ⊥

abbrev pub parts_or_all : List ℕ → Option (List ℕ × List ℕ) → List ℕ × List ℕ
parts_or_all text None = (text, [])
parts_or_all text (Some parts) = parts

-- a type, and the text of the parameters
abbrev pub typed_disposition : List ℕ → List ℕ → Option ContentDisposition
typed_disposition name params =
    if is_empty name then None
    else option_map
    (λ parameters. record { disposition = type_of name; parameters = parameters })
    (all_items param_of (pieces in_parameters in_parameters.start params))

-- The type stands before the first semicolon, and parameters after it. Names need not be tokens,
-- and a trailing semicolon is allowed, where the RFC has neither.
abbrev pub disposition_of : List ℕ → Option ContentDisposition
disposition_of text =
    let parts = parts_or_all (trimmed text) (split_once 59 (trimmed text)) in
    typed_disposition (trimmed parts.0) parts.1

-- the same of bytes, which must be UTF-8
abbrev pub raw_disposition_of : List ℕ → Option ContentDisposition
raw_disposition_of bytes = if is_utf8 bytes then disposition_of bytes else None

-- The first value of the header counts.
abbrev pub first_disposition : List (List ℕ) → Option ContentDisposition
first_disposition [] = None
first_disposition (first ∷ more) = raw_disposition_of first

-- `attachment` with the one parameter `filename`
abbrev pub attachment_of : List ℕ → ContentDisposition
attachment_of filename =
    record { disposition = kind.Attachment; parameters = param.Filename filename ∷ [] }
