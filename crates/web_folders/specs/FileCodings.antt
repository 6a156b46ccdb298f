-- The coding of a file that is sent, by Accept-Encoding (RFC 9110, section 12.5.3).
use Rattle.std.specs.Prelude.{◌≡◌, ℕ, Bool, true, false, List, [], ◌∷◌, ◌++◌, codes, map}
use Rattle.std.specs.Prelude.{Option, None, Some, slice_get, unwrap_or}
use Rattle.std.specs.Option.{option_and_then}
use Rattle.http_header.specs.FieldValue.{FieldValue, plain_value}
use Rattle.http_header.specs.HeaderMap.{remove}
use Rattle.web_headers.specs.declared.codings.ContentEncoding.TheVariants as coding
use Rattle.web_headers.specs.declared.codings.Encoding.{Encoding}
use Rattle.web_headers.specs.declared.codings.Encoding.TheVariants as encoding
use Rattle.web_negotiate.specs.Rankings.{IsFirstGreatest}
use Rattle.web_variants.specs.Acceptance.{Headers, variant_rank}
use Rattle.web_variants.specs.declared.stored_variants.Variant.{Variant}
use Rattle.web_folders.specs.declared.coding.FileCoding.{FileCoding}
use Rattle.web_folders.specs.declared.coding.FileCoding.TheVariants as file

abbrev pub encoding_of : FileCoding → Encoding
encoding_of file.Identity = encoding.Known coding.Identity
encoding_of file.Brotli = encoding.Known coding.Brotli
encoding_of file.Gzip = encoding.Known coding.Gzip

-- the value of Content-Encoding, of what is coded
abbrev pub coding_name : FileCoding → Option FieldValue
coding_name file.Identity = None
coding_name file.Brotli = Some (plain_value (codes "br"))
coding_name file.Gzip = Some (plain_value (codes "gzip"))

abbrev pub only_if : {X : Type 0} → Bool → X → List X
only_if true x = x ∷ []
only_if false x = []

-- the codings in which a file is there: as it is, and those of the files beside it
abbrev pub codings_there : Bool → Bool → List FileCoding
codings_there has_brotli has_gzip =
    file.Identity ∷ only_if has_brotli file.Brotli ++ only_if has_gzip file.Gzip

-- the headers of a request without those that ask for a media type or a language
abbrev pub coding_headers : Headers → Headers
coding_headers headers = remove (remove headers (codes "accept")) (codes "accept-language")

-- The coding of the variant that a client with this Accept-Encoding accepts most, of one variant in
-- each coding that is there. The file as it is, where none is acceptable.
pub record IsCodingFor (headers : Headers) (there : List FileCoding) (given : FileCoding)
    : Type 0 where
  pub variants : List Variant
  pub are : map (λ v. v.coding) variants ≡ map encoding_of there
  pub place : Option ℕ
  pub is_first : IsFirstGreatest (variant_rank (coding_headers headers)) variants place
  pub is : given ≡ unwrap_or (option_and_then (slice_get there) place) file.Identity

-- The coding in which a file is sent, by what stands beside it.
abbrev pub SendsCoding : Headers → Bool → Bool → FileCoding → Type 0
SendsCoding headers false false given = given ≡ file.Identity
SendsCoding headers false true given = IsCodingFor headers (codings_there false true) given
SendsCoding headers true has_gzip given = IsCodingFor headers (codings_there true has_gzip) given
