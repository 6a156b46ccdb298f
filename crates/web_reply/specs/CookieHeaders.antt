-- The header that sets a cookie.
use Rattle.std.specs.Prelude.{ℕ, List, Result, codes}
use Rattle.http_header.specs.FieldValue.{FieldValue, plain_value}
use Rattle.web_cookies.specs.CookieFields.{CookieFields}
use Rattle.web_cookies.specs.CookieTexts.{cookie_text}
use Rattle.web_reply.specs.declared.errors.cause.HttpError.{HttpError}
use Rattle.web_reply.specs.HeaderSteps.{valued}

-- Set-Cookie with the text of a cookie, or the refusal of that text
abbrev pub cookie_header : CookieFields → Result (List ℕ × FieldValue) HttpError
cookie_header cookie = valued (codes "set-cookie") (plain_value (cookie_text cookie))
