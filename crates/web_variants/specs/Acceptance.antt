-- How acceptable a stored variant is to a client (RFC 9110, section 12.5): three qualities, in
-- thousandths, and their product.
use Rattle.std.specs.Prelude.{ℕ, ◌+◌, ◌*◌, ◌==◌, ◌&&◌, ◌||◌, Bool, true, false, is_none, codes}
use Rattle.std.specs.Prelude.{List, [], ◌∷◌, length, take, nat_lt, slice_index, unwrap_or}
use Rattle.std.specs.Prelude.{Option, None, Some, if◌then◌else◌}
use Rattle.std.specs.Option.{option_map}
use Rattle.std.specs.Str.{bytes_eq, str_eq_ignore_ascii_case}
use Rattle.http_header.specs.FieldValue.{FieldValue}
use Rattle.http_header.specs.HeaderMap.{Entries, get_all}
use Rattle.web_texts.specs.HeaderTexts.{value_bytes}
use Rattle.web_texts.specs.MediaTypes.{MediaType, essence_of, media_type_eq}
use Rattle.web_texts.specs.declared.media.quality_item.QualityItem.{QualityItem}
use Rattle.web_headers.specs.ListHeaders.{accept_encoding_of, accept_language_of, accept_of}
use Rattle.web_headers.specs.declared.codings.ContentEncoding.TheVariants as coding
use Rattle.web_headers.specs.declared.codings.Encoding.{Encoding}
use Rattle.web_headers.specs.declared.codings.Encoding.TheVariants as encoding
use Rattle.web_headers.specs.declared.accepts.preferences.Preference.{Preference}
use Rattle.web_headers.specs.declared.accepts.preferences.Preference.TheVariants as preference
use Rattle.web_negotiate.specs.EncodingChoices.{same_encoding}
use Rattle.web_variants.specs.FirstGreatest.{first_greatest}
use Rattle.web_variants.specs.declared.stored_variants.Variant.{Variant}

-- the headers of a request
abbrev pub Headers : Type 0
Headers = Entries FieldValue

-- the items of Accept, each with its quality
abbrev pub MediaRanges : Type 0
MediaRanges = List (QualityItem MediaType)

-- the items of Accept-Language
abbrev pub LanguageRanges : Type 0
LanguageRanges = List (QualityItem (Preference (List ℕ)))

-- the items of Accept-Encoding
abbrev pub Codings : Type 0
Codings = List (QualityItem (Preference Encoding))

-- the quality of the first item of the greatest rank above zero
abbrev pub best_quality : {T : Type 0} → (QualityItem T → ℕ) → List (QualityItem T) → Option ℕ
best_quality rank items = option_map (λ x. x.quality) (first_greatest rank items)

-- ---- media types (section 12.5.1)

-- the same type, subtype and suffix
abbrev pub same_essence : MediaType → MediaType → Bool
same_essence a b = bytes_eq (essence_of a) (essence_of b)

-- `type/*`, without a suffix
abbrev pub is_any_subtype : MediaType → MediaType → Bool
is_any_subtype m item =
    bytes_eq item.type_ m.type_ && (bytes_eq item.subtype (codes "*") && is_none item.suffix)

-- How closely a range matches a media type: by the same type and parameters, by the same type
-- without parameters, as `type/*`, as `*/*`, or not at all.
abbrev pub media_match : MediaType → MediaType → ℕ
media_match m item =
    if length item.params == 0
    then if same_essence item m then 3
    else if is_any_subtype m item then 2
    else if bytes_eq (essence_of item) (codes "*/*") then 1
    else 0
    else if media_type_eq item m then 4 else 0

-- the quality of the closest range, the first among equals
abbrev pub media_quality : MediaType → Option MediaRanges → ℕ
media_quality m None = 1000
media_quality m (Some []) = 1000
media_quality m (Some (item ∷ items)) =
    unwrap_or (best_quality (λ x. media_match m x.item) (item ∷ items)) 0

-- ---- languages (section 12.5.4)

-- the range is the tag, or a prefix of it before a hyphen, in any case (RFC 4647, section 3.3.1)
abbrev pub is_range_of : List ℕ → List ℕ → Bool
is_range_of tag range =
    str_eq_ignore_ascii_case range tag
    || (nat_lt (length range) (length tag)
    && (slice_index tag (length range) == 45
    && str_eq_ignore_ascii_case (take (length range) tag) range))

-- the length of a range that matches, and one more; `*` is the empty range
abbrev pub language_match : List ℕ → Preference (List ℕ) → ℕ
language_match tag preference.Any = 1
language_match tag (preference.Specific range) =
    if is_range_of tag range then length range + 1 else 0

-- the quality of the longest range, the first among equals
abbrev pub language_quality : Option (List ℕ) → Option LanguageRanges → ℕ
language_quality None items = 1000
language_quality (Some tag) None = 1000
language_quality (Some tag) (Some []) = 1000
language_quality (Some tag) (Some (item ∷ items)) =
    unwrap_or (best_quality (λ x. language_match tag x.item) (item ∷ items)) 0

-- ---- codings (section 12.5.3)

-- the content is in no coding
abbrev pub is_identity : Encoding → Bool
is_identity (encoding.Known coding.Identity) = true
is_identity other = false

-- this item of Accept-Encoding is the coding itself, not `*`
abbrev pub names_coding : Encoding → Preference Encoding → Bool
names_coding e preference.Any = false
names_coding e (preference.Specific named) = same_encoding e named

-- this item of Accept-Encoding is `*`
abbrev pub is_any : Preference Encoding → Bool
is_any preference.Any = true
is_any (preference.Specific e) = false

-- by quality, of the items that pass a test; zero of the others
abbrev pub quality_where : (Preference Encoding → Bool) → QualityItem (Preference Encoding) → ℕ
quality_where test x = if test x.item then x.quality + 1 else 0

-- the greatest quality of the items that pass a test
abbrev pub greatest_quality : (Preference Encoding → Bool) → Codings → Option ℕ
greatest_quality test items = best_quality (quality_where test) items

-- one of two qualities, by whether the coding is identity
abbrev pub by_identity : Encoding → ℕ → ℕ → ℕ
by_identity e identity other = if is_identity e then identity else other

-- Without the header any coding is acceptable, and identity preferred. Where no item names a
-- coding, and none is `*`, identity alone is acceptable.
abbrev pub coding_quality : Encoding → Option Codings → ℕ
coding_quality e None = by_identity e 1000 1
coding_quality e (Some []) = by_identity e 1000 0
coding_quality e (Some (item ∷ items)) =
    unwrap_or (greatest_quality (names_coding e) (item ∷ items))
    (unwrap_or (greatest_quality is_any (item ∷ items)) (by_identity e 1 0))

-- ---- what the headers of a request say

-- the values of a header, in their order
abbrev pub values : List ℕ → Headers → List (List ℕ)
values name headers = value_bytes (get_all headers name)

-- A header that its reader refuses says nothing.

-- what Accept says
abbrev pub media_ranges : Headers → Option MediaRanges
media_ranges headers = accept_of (values (codes "accept") headers)

-- what Accept-Language says
abbrev pub language_ranges : Headers → Option LanguageRanges
language_ranges headers = accept_language_of (values (codes "accept-language") headers)

-- An absent header says nothing, where an empty list says that identity alone is acceptable.
abbrev pub codings_of_values : List (List ℕ) → Option Codings
codings_of_values [] = None
codings_of_values (first ∷ more) = accept_encoding_of (first ∷ more)

-- what Accept-Encoding says
abbrev pub codings : Headers → Option Codings
codings headers = codings_of_values (values (codes "accept-encoding") headers)

-- the product of the three qualities; a variant is acceptable where it is above zero
abbrev pub quality_product : Option MediaRanges → Option LanguageRanges → Option Codings
    → Variant → ℕ
quality_product types languages encodings v =
    media_quality v.media_type types
    * language_quality v.language languages
    * coding_quality v.coding encodings

-- the rank of a variant for a request with these headers
abbrev pub variant_rank : Headers → Variant → ℕ
variant_rank headers v =
    quality_product (media_ranges headers) (language_ranges headers) (codings headers) v
