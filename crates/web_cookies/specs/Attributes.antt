-- What the parts after the first one say of a cookie (RFC 6265, section 5.2).
use Rattle.std.specs.Prelude.{ℕ, ◌||◌, Bool, true, false, List, [], ◌∷◌, codes, drop, map}
use Rattle.std.specs.Prelude.{min, Option, None, Some, if◌then◌else◌}
use Rattle.std.specs.List.{list_any, slice_split}
use Rattle.std.specs.Option.{option_and_then, option_map_or, option_or}
use Rattle.std.specs.Str.{str_eq_ignore_ascii_case}
use Rattle.httpdate.specs.declared.parts.Parts.{Parts}
use Rattle.httpdate.specs.Reader.{parse}
use Rattle.httpdate.specs.Valid.{is_valid}
use Rattle.web_texts.specs.Bytes.{is_semicolon, starts_with_byte}
use Rattle.web_texts.specs.Blanks.{trimmed}
use Rattle.web_texts.specs.Cut.{split_once}
use Rattle.web_texts.specs.Digits.{are_digits, digits_value}
use Rattle.web_texts.specs.PieceItems.{is_empty}
use Rattle.web_cookies.specs.declared.same_site.SameSite.{SameSite}
use Rattle.web_cookies.specs.declared.same_site.SameSite.TheVariants as site
use Rattle.web_cookies.specs.CookieFields.{CookieFields}

-- what one part says; `Other` says nothing
pub data Attribute : Type 0 where
  HttpOnly : Attribute
  Secure : Attribute
  Site : SameSite → Attribute
  Path : List ℕ → Attribute
  Domain : List ℕ → Attribute
  MaxAge : ℕ → Attribute
  Expires : Parts → Attribute
  Other : Attribute

abbrev pub site_of : List ℕ → Option SameSite
site_of value =
    if str_eq_ignore_ascii_case value (codes "strict") then Some site.Strict
    else if str_eq_ignore_ascii_case value (codes "lax") then Some site.Lax
    else if str_eq_ignore_ascii_case value (codes "none") then Some site.None
    else None

-- less one leading dot
abbrev pub without_dot : List ℕ → List ℕ
without_dot value = if starts_with_byte 46 value then drop 1 value else value

-- the age in seconds that digits say, at most 2^63 - 1; after a minus 0
abbrev pub age_of : List ℕ → Option ℕ
age_of value =
    if starts_with_byte 45 value then (if are_digits (drop 1 value) then Some 0 else None)
    else if are_digits value then Some (min (digits_value value) 9223372036854775807) else None

abbrev pub valid_date : Parts → Option Parts
valid_date date = if is_valid date then Some date else None

-- the date that a text shows in one of the three formats (RFC 9110, section 5.6.7)
abbrev pub date_of : List ℕ → Option Parts
date_of text = option_and_then valid_date (parse text)

abbrev pub named_attribute : List ℕ → List ℕ → Attribute
named_attribute name value =
    if str_eq_ignore_ascii_case name (codes "httponly") then HttpOnly
    else if str_eq_ignore_ascii_case name (codes "secure") then Secure
    else if str_eq_ignore_ascii_case name (codes "samesite")
    then option_map_or Site (site_of value) Other
    else if str_eq_ignore_ascii_case name (codes "path") then Path value
    else if str_eq_ignore_ascii_case name (codes "domain")
    then (if is_empty value then Other else Domain (without_dot value))
    else if str_eq_ignore_ascii_case name (codes "max-age")
    then option_map_or MaxAge (age_of value) Other
    else if str_eq_ignore_ascii_case name (codes "expires")
    then option_map_or Expires (date_of value) Other
    else Other

-- an attribute without `=`
abbrev pub bare_attribute : List ℕ → Attribute
bare_attribute name =
    if str_eq_ignore_ascii_case name (codes "httponly") then HttpOnly
    else if str_eq_ignore_ascii_case name (codes "secure") then Secure
    else Other

abbrev pub attribute_in : List ℕ → Option (List ℕ × List ℕ) → Attribute
attribute_in part None = bare_attribute (trimmed part)
attribute_in part (Some halves) = named_attribute (trimmed halves.0) (trimmed halves.1)

-- Name and value stand round the first `=`, trimmed; without one there is no value.
abbrev pub attribute_of : List ℕ → Attribute
attribute_of part = attribute_in part (split_once 61 part)

-- what the parts between the semicolons of a text say
abbrev pub attributes_of : List ℕ → List Attribute
attributes_of text = map attribute_of (slice_split is_semicolon text)

-- what the last one says that says something
abbrev pub last_said : {A T : Type 0} → (A → Option T) → List A → Option T
last_said said [] = None
last_said said (a ∷ rest) = option_or (last_said said rest) (said a)

abbrev pub path_in : Attribute → Option (List ℕ)
path_in (Path path) = Some path
path_in _ = None

abbrev pub domain_in : Attribute → Option (List ℕ)
domain_in (Domain domain) = Some domain
domain_in _ = None

abbrev pub age_in : Attribute → Option ℕ
age_in (MaxAge age) = Some age
age_in _ = None

abbrev pub expires_in : Attribute → Option Parts
expires_in (Expires date) = Some date
expires_in _ = None

abbrev pub site_in : Attribute → Option SameSite
site_in (Site site) = Some site
site_in _ = None

abbrev pub secure_in : Attribute → Option Bool
secure_in Secure = Some true
secure_in _ = None

abbrev pub is_http_only : Attribute → Bool
is_http_only HttpOnly = true
is_http_only _ = false

-- the cookie with what these attributes say, later ones replacing earlier ones
abbrev pub with_attributes : List Attribute → CookieFields → CookieFields
with_attributes attributes c = record {
  name = c.name;
  value = c.value;
  path = option_or (last_said path_in attributes) c.path;
  domain = option_or (last_said domain_in attributes) c.domain;
  max_age = option_or (last_said age_in attributes) c.max_age;
  expires = option_or (last_said expires_in attributes) c.expires;
  secure = option_or (last_said secure_in attributes) c.secure;
  http_only = list_any is_http_only attributes || c.http_only;
  same_site = option_or (last_said site_in attributes) c.same_site;
}
