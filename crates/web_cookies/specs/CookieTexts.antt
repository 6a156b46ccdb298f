-- What a cookie prints, and the texts of errors.
use Rattle.std.specs.Prelude.{ℕ, ◌++◌, Bool, false, true, List, [], Option, None, Some, codes}
use Rattle.std.specs.Prelude.{decimal, if◌then◌else◌}
use Rattle.httpdate.specs.Text.{imf_fixdate}
use Rattle.web_cookies.specs.declared.cookie_parse_error.CookieParseError.{CookieParseError}
use Rattle.web_cookies.specs.declared.cookie_parse_error.CookieParseError.TheVariants.{MissingPair}
use Rattle.web_cookies.specs.declared.cookie_parse_error.CookieParseError.TheVariants.{EmptyName}
use Rattle.web_cookies.specs.declared.cookie_parse_error.CookieParseError.TheVariants.{Utf8}
use Rattle.web_cookies.specs.declared.same_site.SameSite.{SameSite}
use Rattle.web_cookies.specs.declared.same_site.SameSite.TheVariants as site
use Rattle.web_cookies.specs.CookieFields.{CookieFields}

abbrev pub cookie_error_text : CookieParseError → List ℕ
cookie_error_text MissingPair = codes "cookie has no pair"
cookie_error_text EmptyName = codes "cookie name is empty"
cookie_error_text Utf8 = codes "cookie is not UTF-8"

abbrev pub site_name : SameSite → List ℕ
site_name site.Strict = codes "Strict"
site_name site.Lax = codes "Lax"
site_name site.None = codes "None"

-- the text after a label, where there is something to print
abbrev pub labelled : {T : Type 0} → List ℕ → (T → List ℕ) → Option T → List ℕ
labelled label text None = []
labelled label text (Some x) = label ++ text x

abbrev pub is_none_site : Option SameSite → Bool
is_none_site None = false
is_none_site (Some site.Strict) = false
is_none_site (Some site.Lax) = false
is_none_site (Some site.None) = true

-- Secure is printed where it is set, and where it is not there and SameSite is None, since clients
-- refuse such a cookie without it
abbrev pub prints_secure : Option Bool → Option SameSite → Bool
prints_secure None same_site = is_none_site same_site
prints_secure (Some secure) same_site = secure

abbrev pub flags_text : CookieFields → List ℕ
flags_text c =
    (if c.http_only then codes "; HttpOnly" else [])
    ++ labelled (codes "; SameSite=") site_name c.same_site
    ++ (if prints_secure c.secure c.same_site then codes "; Secure" else [])

abbrev pub places_text : CookieFields → List ℕ
places_text c =
    labelled (codes "; Path=") (λ path. path) c.path
    ++ labelled (codes "; Domain=") (λ domain. domain) c.domain

abbrev pub ages_text : CookieFields → List ℕ
ages_text c =
    labelled (codes "; Max-Age=") decimal c.max_age
    ++ labelled (codes "; Expires=") imf_fixdate c.expires

-- the pair, and the attributes that are set
abbrev pub cookie_text : CookieFields → List ℕ
cookie_text c = c.name ++ codes "=" ++ c.value ++ flags_text c ++ places_text c ++ ages_text c
