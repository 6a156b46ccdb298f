-- When a cookie's text reads back as the cookie.
use Rattle.std.specs.Prelude.{◌≡◌, ℕ, false, List, Result, Ok, Err}
use Rattle.web_texts.specs.declared.memory.Fail.{Fail}
use Rattle.web_texts.specs.declared.memory.Fail.TheVariants as fail
use Rattle.web_cookies.specs.CookieFields.{CookieFields, plain_cookie}
use Rattle.web_cookies.specs.CookieReaders.{cookie_said}
use Rattle.web_cookies.specs.CookieTexts.{cookie_text}

-- Reading the text that the cookie prints gives the cookie.
abbrev pub ReadsBack : CookieFields → Type 0
ReadsBack cookie = cookie_said false (cookie_text cookie) ≡ Ok cookie

-- The cookie of a name and a value comes exactly where it reads back; allocation may always fail.
abbrev pub GivesChecked : {X E : Type 0} → (X → CookieFields) → List ℕ → List ℕ
    → Result X (Fail E) → Type 0
GivesChecked view name value (Ok made) =
    (view made ≡ plain_cookie name value) × ReadsBack (plain_cookie name value)
GivesChecked view name value (Err fail.NoMemory) = Unit {0}
GivesChecked view name value (Err (fail.Of e)) = ¬ ReadsBack (plain_cookie name value)
