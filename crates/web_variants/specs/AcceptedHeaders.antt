-- The headers that were read, as the lists of their items.
use Rattle.std.specs.Prelude.{ℕ, Bool, true, false, List, [], ◌∷◌, Option}
use Rattle.std.specs.Option.{option_map}
use Rattle.http_header.specs.FieldValue.{FieldValue}
use Rattle.web_headers.specs.declared.accepts.accept_encoding.AcceptEncoding.{AcceptEncoding}
use Rattle.web_headers.specs.declared.accepts.accept_header.Accept.{Accept}
use Rattle.web_headers.specs.declared.accepts.accept_language.AcceptLanguage.{AcceptLanguage}
use Rattle.web_variants.specs.Acceptance.{Codings, LanguageRanges, MediaRanges, quality_product}
use Rattle.web_variants.specs.declared.accepted.Accepted.{Accepted}
use Rattle.web_variants.specs.declared.stored_variants.Variant.{Variant}

-- the items of an Accept that was read
abbrev pub accepted_types : Option Accept → Option MediaRanges
accepted_types header = option_map (λ h. h.0) header

-- the items of an Accept-Language that was read
abbrev pub accepted_languages : Option AcceptLanguage → Option LanguageRanges
accepted_languages header = option_map (λ h. h.0) header

-- the items of an Accept-Encoding that was read
abbrev pub accepted_codings : Option AcceptEncoding → Option Codings
accepted_codings header = option_map (λ h. h.0) header

-- the rank of a variant by the three headers that were read
abbrev pub accepted_rank : Accepted → Variant → ℕ
accepted_rank accepted v =
    quality_product (accepted_types accepted.types) (accepted_languages accepted.languages)
    (accepted_codings accepted.codings) v

-- the header is there
abbrev pub has_values : List FieldValue → Bool
has_values [] = false
has_values (first ∷ more) = true
