-- A cookie with which a client forgets another one.
use Rattle.std.specs.Prelude.{◌≡◌, ℕ, ◌-◌, [], Some}
use Rattle.httpdate.specs.Date.{unix_secs}
use Rattle.httpdate.specs.declared.date.HttpDate.{HttpDate}
use Rattle.web_cookies.specs.CookieFields.{CookieFields, date_parts}

-- The value is empty, and the cookie ended at the date a year of 365 days before the second
-- `moment`, or at that of second 0 where that is later. All else is as before.
pub record IsRemoval (moment : ℕ) (old new : CookieFields) : Type 0 where
  pub date : HttpDate
  pub ended : unix_secs date ≡ moment - 31536000
  pub fields :
      new ≡ record old { value = []; max_age = Some 0; expires = Some (date_parts date) }
