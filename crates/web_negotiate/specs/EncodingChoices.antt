-- Choices among the codings of Accept-Encoding (RFC 9110, section 12.5.3).
use Rattle.std.specs.Prelude.{◌≡◌, ℕ, ◌+◌, ◌*◌, ◌==◌, ◌&&◌, ◌||◌, Bool, true, false, List, []}
use Rattle.std.specs.Prelude.{◌∷◌, nat_lt, Option, None, Some, if◌then◌else◌}
use Rattle.std.specs.List.{list_any}
use Rattle.std.specs.Str.{bytes_eq}
use Rattle.web_headers.specs.Codings.{coding_text}
use Rattle.web_headers.specs.Preferences.{preferred_item}
use Rattle.web_headers.specs.declared.codings.ContentEncoding.TheVariants as coding
use Rattle.web_headers.specs.declared.codings.Encoding.{Encoding}
use Rattle.web_headers.specs.declared.codings.Encoding.TheVariants as encoding
use Rattle.web_headers.specs.declared.accepts.preferences.Preference.{Preference}
use Rattle.web_headers.specs.declared.accepts.preferences.Preference.TheVariants as preference
use Rattle.web_texts.specs.declared.media.quality_item.QualityItem.{QualityItem}
use Rattle.web_negotiate.specs.Rankings.{IsRanking, IsGreatest}

abbrev pub Coding : Type 0
Coding = Preference Encoding

abbrev pub identity : Encoding
identity = encoding.Known coding.Identity

-- how well a coding compresses
abbrev pub coding_class : Coding → ℕ
coding_class (preference.Specific (encoding.Known coding.Brotli)) = 5
coding_class (preference.Specific (encoding.Known coding.Zstd)) = 4
coding_class (preference.Specific (encoding.Known coding.Gzip)) = 3
coding_class (preference.Specific (encoding.Known coding.Deflate)) = 2
coding_class (preference.Specific (encoding.Unknown text)) = 1
coding_class (preference.Specific (encoding.Known coding.Identity)) = 0
coding_class preference.Any = 0

-- quality, then class, which is below 8; zero where the quality is zero
abbrev pub coding_rank : QualityItem Coding → ℕ
coding_rank x = if x.quality == 0 then 0 else x.quality * 8 + coding_class x.item

abbrev pub IsCodingRanking : List (QualityItem Coding) → List Coding → Type 0
IsCodingRanking xs ranked = IsRanking coding_rank xs ranked

abbrev pub is_star_item : Coding → Bool
is_star_item preference.Any = true
is_star_item (preference.Specific e) = false

abbrev pub is_identity_item : Coding → Bool
is_identity_item (preference.Specific (encoding.Known coding.Identity)) = true
is_identity_item other = false

abbrev pub is_star : QualityItem Coding → Bool
is_star x = is_star_item x.item

abbrev pub is_identity : QualityItem Coding → Bool
is_identity x = is_identity_item x.item

-- Where no item has a quality above zero, identity stands, unless it or `*` is named.
abbrev pub or_identity : List (QualityItem Coding) → Option (QualityItem Coding) → Option Coding
or_identity xs (Some x) = Some x.item
or_identity xs None =
    if list_any is_star xs || list_any is_identity xs then None
    else Some (preference.Specific identity)

pub record IsGreatestCoding (xs : List (QualityItem Coding)) (given : Option Coding) : Type 0 where
  pub greatest : Option (QualityItem Coding)
  pub is_greatest : IsGreatest coding_rank xs greatest
  pub is : given ≡ or_identity xs greatest

-- An empty list prefers anything.
abbrev pub IsCodingPreference : List (QualityItem Coding) → Option Coding → Type 0
IsCodingPreference [] given = given ≡ Some preference.Any
IsCodingPreference (x ∷ more) given = IsGreatestCoding (x ∷ more) given

abbrev pub is_wanted_star : QualityItem Coding → Bool
is_wanted_star x = is_star x && nat_lt 0 x.quality

abbrev pub is_wanted_identity : QualityItem Coding → Bool
is_wanted_identity x = is_identity x && nat_lt 0 x.quality

-- Identity is acceptable by its own greatest quality, where it is named; else by that of `*`,
-- where there is one; else always.
abbrev pub is_identity_acceptable : List (QualityItem Coding) → Bool
is_identity_acceptable xs =
    if list_any is_identity xs then list_any is_wanted_identity xs
    else if list_any is_star xs then list_any is_wanted_star xs
    else true

-- Codings that are known are compared as such, all others by their texts.
abbrev pub same_encoding : Encoding → Encoding → Bool
same_encoding (encoding.Known a) (encoding.Known b) = bytes_eq (coding_text a) (coding_text b)
same_encoding (encoding.Unknown a) (encoding.Unknown b) = bytes_eq a b
same_encoding a b = false

abbrev pub is_supported : List Encoding → Encoding → Bool
is_supported supported e = list_any (same_encoding e) supported

-- the rank of a coding that is named and supported, and zero of every other item
abbrev pub rank_of_supported : List Encoding → ℕ → Coding → ℕ
rank_of_supported supported rank preference.Any = 0
rank_of_supported supported rank (preference.Specific e) =
    if is_supported supported e then rank else 0

abbrev pub supported_rank : List Encoding → QualityItem Coding → ℕ
supported_rank supported x = rank_of_supported supported (coding_rank x) x.item

abbrev pub or_acceptable : List (QualityItem Coding) → Option (QualityItem Coding)
    → Option Encoding
or_acceptable xs (Some x) = preferred_item x.item
or_acceptable xs None = if is_identity_acceptable xs then Some identity else None

pub record IsBestSupported (xs : List (QualityItem Coding)) (supported : List Encoding)
    (given : Option Encoding) : Type 0 where
  pub greatest : Option (QualityItem Coding)
  pub is_greatest : IsGreatest (supported_rank supported) xs greatest
  pub is : given ≡ or_acceptable xs greatest

-- The coding to send: none where none is supported; identity where the header is empty; else the
-- greatest that is named, has a quality above zero and is supported; else identity where it is
-- acceptable, supported or not. Where identity alone is supported this gives it exactly where it
-- is acceptable.
abbrev pub IsNegotiated : List (QualityItem Coding) → List Encoding → Option Encoding → Type 0
IsNegotiated xs [] given = given ≡ None
IsNegotiated [] (s ∷ more) given = given ≡ Some identity
IsNegotiated (x ∷ xs) (s ∷ more) given = IsBestSupported (x ∷ xs) (s ∷ more) given
