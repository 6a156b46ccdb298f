-- What a call that computes leaves of a request.
use Rattle.std.specs.Prelude.{◌≡◌, List, Result, Ok, Err}
use denote.Bor.{Bor}
use Rattle.url.specs.declared.error.ParseError.{ParseError}
use Rattle.url.specs.Parts.{Parts}
use Rattle.web_texts.specs.declared.memory.Fail.{Fail}
use Rattle.web_texts.specs.declared.memory.Fail.TheVariants as fail
use Rattle.web_texts.specs.declared.memory.NoMemory.{NoMemory}
use Rattle.web_cookies.specs.declared.cookie_parse_error.CookieParseError.{CookieParseError}
use Rattle.web_texts.specs.Pairs.{Pair}
use Rattle.web_request.specs.Connections.{Connection}
use Rattle.web_request.specs.KeptValues.{with_connection, with_cookies, with_raw_cookies}
use Rattle.web_request.specs.Request.{Record}

module _ {L D C : Type 0} where
  -- the connection that was returned is kept; else all is as before
  abbrev pub KeepsConnection : Record L D C → Result (Bor Connection) NoMemory → Record L D C
      → Type 0
  KeepsConnection old (Ok info) new = new ≡ with_connection old
  KeepsConnection old (Err error) new = new ≡ old

  -- the cookies that were returned are kept; else all is as before
  abbrev pub KeepsCookies : Record L D C
      → Result (Bor (List Pair)) (Fail CookieParseError) → Record L D C → Type 0
  KeepsCookies old (Ok cookies) new = new ≡ with_cookies (Ok cookies.now) old
  KeepsCookies old (Err error) new = new ≡ old

  abbrev pub KeepsRawCookies : Record L D C
      → Result (Bor (List Pair)) (Fail CookieParseError) → Record L D C → Type 0
  KeepsRawCookies old (Ok cookies) new = new ≡ with_raw_cookies (Ok cookies.now) old
  KeepsRawCookies old (Err error) new = new ≡ old

  -- the connection is kept, also where the URL is refused; without memory all is as before
  abbrev pub KeepsUrlConnection : Record L D C → Result Parts (Fail ParseError) → Record L D C
      → Type 0
  KeepsUrlConnection old (Ok url) new = new ≡ with_connection old
  KeepsUrlConnection old (Err (fail.Of cause)) new = new ≡ with_connection old
  KeepsUrlConnection old (Err fail.NoMemory) new = new ≡ old
