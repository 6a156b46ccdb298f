-- Which variants are stored, and with what headers each is sent.
use Rattle.std.specs.Prelude.{ℕ, ◌+◌, Bool, true, ◌&&◌, ◌||◌, List, [], ◌∷◌, ◌++◌, codes}
use Rattle.std.specs.Prelude.{Option, None, Some, Result, Ok, Err, if◌then◌else◌}
use Rattle.std.specs.Str.{bytes_eq}
use Rattle.http_header.specs.FieldValue.{plain_value}
use Rattle.web_texts.specs.MediaTypes.{MediaType}
use Rattle.web_texts.specs.MediaTypeTexts.{media_type_text}
use Rattle.web_headers.specs.Codings.{encoding_text}
use Rattle.web_headers.specs.declared.codings.Encoding.{Encoding}
use Rattle.web_reply.specs.HeaderSteps.{is_field_value}
use Rattle.web_variants.specs.Acceptance.{Headers, is_identity}
use Rattle.web_variants.specs.declared.stored_variants.Variant.{Variant}
use Rattle.web_variants.specs.declared.stored_variants.VariantFault.{VariantFault}
use Rattle.web_variants.specs.declared.stored_variants.VariantFault.TheVariants as fault

-- `*` is the type or the subtype
abbrev pub has_star : MediaType → Bool
has_star m = bytes_eq m.type_ (codes "*") || bytes_eq m.subtype (codes "*")

-- a header may hold the language, where there is one
abbrev pub is_language_value : Option (List ℕ) → Bool
is_language_value None = true
is_language_value (Some tag) = is_field_value tag

-- headers may hold the media type, the language and the coding (RFC 9110, section 5.5)
abbrev pub is_printable : Variant → Bool
is_printable v = is_field_value (media_type_text v.media_type)
    && (is_language_value v.language && is_field_value (encoding_text v.coding))

-- why the variant at this place is refused
abbrev pub fault_at : ℕ → Variant → Option VariantFault
fault_at place v =
    if has_star v.media_type then Some (fault.Star place)
    else if is_printable v then None
    else Some (fault.Value place)

-- the first of two faults, where there is one
abbrev pub or_fault : Option VariantFault → Option VariantFault → Option VariantFault
or_fault None later = later
or_fault (Some e) later = Some e

-- why the first of these that is refused is; the first of them stands at this place
abbrev pub first_fault : ℕ → List Variant → Option VariantFault
first_fault place [] = None
first_fault place (v ∷ more) = or_fault (fault_at place v) (first_fault (place + 1) more)

-- why variants are not stored
abbrev pub refusal : List Variant → Option VariantFault
refusal [] = Some fault.Empty
refusal (v ∷ more) = first_fault 0 (v ∷ more)

-- the value, unless there is a fault
abbrev pub unless_refused : {T : Type 0} → T → Option VariantFault → Result T VariantFault
unless_refused x None = Ok x
unless_refused x (Some e) = Err e

-- a header with one value, where there is one
abbrev pub header_of : List ℕ → Option (List ℕ) → Headers
header_of name None = []
header_of name (Some text) = (name, plain_value text ∷ []) ∷ []

-- the text of a coding that is not identity
abbrev pub content_encoding : Encoding → Option (List ℕ)
content_encoding e = if is_identity e then None else Some (encoding_text e)

-- the headers by which the variants are chosen
abbrev pub vary : Headers
vary = header_of (codes "vary") (Some (codes "accept, accept-language, accept-encoding"))

-- the headers with which a variant is sent
abbrev pub variant_headers : Variant → Headers
variant_headers v = header_of (codes "content-encoding") (content_encoding v.coding)
    ++ (header_of (codes "content-language") v.language
    ++ (header_of (codes "content-type") (Some (media_type_text v.media_type)) ++ vary))
