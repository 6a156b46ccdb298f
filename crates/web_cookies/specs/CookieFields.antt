-- A cookie as contracts see it.
use Rattle.std.specs.Prelude.{ℕ, Bool, false, List, ◌++◌, ◌∷◌, Option, None}
use Rattle.httpdate.specs.declared.parts.Parts.{Parts}
use Rattle.web_texts.specs.Pairs.{Pair}
use Rattle.httpdate.specs.declared.date.HttpDate.{HttpDate}
use Rattle.web_cookies.specs.declared.same_site.SameSite.{SameSite}

pub record CookieFields : Type 0 where
  pub name : List ℕ
  pub value : List ℕ
  pub path : Option (List ℕ)
  pub domain : Option (List ℕ)
  -- in seconds
  pub max_age : Option ℕ
  pub expires : Option Parts
  pub secure : Option Bool
  pub http_only : Bool
  pub same_site : Option SameSite

-- the numbers that a date shows: year, month, day and time of day
abbrev pub date_parts : HttpDate → Parts
date_parts date = date.parts

-- a cookie without attributes
abbrev pub plain_cookie : List ℕ → List ℕ → CookieFields
plain_cookie name value = record {
  name = name;
  value = value;
  path = None;
  domain = None;
  max_age = None;
  expires = None;
  secure = None;
  http_only = false;
  same_site = None;
}

-- the cookie of a pair, which has no attributes
abbrev pub cookie_of_pair : Pair → CookieFields
cookie_of_pair pair = plain_cookie pair.name pair.value

-- as a client sends it
abbrev pub pair_text : Pair → List ℕ
pair_text pair = pair.name ++ 61 ∷ pair.value
