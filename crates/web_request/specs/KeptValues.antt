-- What is computed of a request once and then kept.
use Rattle.std.specs.Prelude.{ℕ, true, false, List, Option, None, Some, Result, Ok, Err}
use Rattle.std.specs.Prelude.{codes, unwrap_or}
use Rattle.std.specs.List.{find}
use Rattle.std.specs.Option.{option_map}
use Rattle.std.specs.Str.{bytes_eq}
use Rattle.http_header.specs.FieldValue.{FieldValue}
use Rattle.http_header.specs.HeaderMap.{get_all}
use Rattle.web_cookies.specs.declared.cookie_parse_error.CookieParseError.{CookieParseError}
use Rattle.web_texts.specs.Pairs.{Pair}
use Rattle.web_cookies.specs.CookieFields.{CookieFields, cookie_of_pair}
use Rattle.web_cookies.specs.HeaderCookies.{cookies_said}
use Rattle.web_request.specs.declared.records.kept_values.ComputedValues.{ComputedValues}
use Rattle.web_request.specs.Connections.{Connection, connection_of}
use Rattle.web_request.specs.Request.{Kept, Record, nothing_kept}

abbrev pub kept_view : Option ComputedValues → Kept
kept_view None = nothing_kept
kept_view (Some computed) = record {
  connection = computed.connection;
  decoded = option_map (λ cookies. cookies.items) computed.decoded;
  raw = option_map (λ cookies. cookies.items) computed.raw;
}

abbrev pub CookiesSaid : Type 0
CookiesSaid = Result (List Pair) CookieParseError

-- what is kept, else what is said now
abbrev pub kept_or_said : Option (List Pair) → CookiesSaid → CookiesSaid
kept_or_said None said = said
kept_or_said (Some kept) said = Ok kept

abbrev pub some_said : CookiesSaid → Result (Option (List Pair)) CookieParseError
some_said (Ok cookies) = Ok (Some cookies)
some_said (Err error) = Err error

module _ {L D C : Type 0} where
  abbrev pub cookie_values : Record L D C → List FieldValue
  cookie_values r = get_all r.request.head.headers (codes "cookie")

  -- the connection that is kept, else what the head says now
  abbrev pub known_connection : Record L D C → Connection
  known_connection r =
      unwrap_or r.kept.connection (connection_of r.request.head r.request.config)

  abbrev pub with_connection : Record L D C → Record L D C
  with_connection r =
      record r { kept = record r.kept { connection = Some (known_connection r) } }

  -- the cookies that are kept, else those that the head says now, or why it says none
  abbrev pub known_cookies : Record L D C → CookiesSaid
  known_cookies r = kept_or_said r.kept.decoded (cookies_said true (cookie_values r))

  abbrev pub known_raw_cookies : Record L D C → CookiesSaid
  known_raw_cookies r = kept_or_said r.kept.raw (cookies_said false (cookie_values r))

  -- the request once cookies were read that are said; where none are, it is as before
  abbrev pub with_cookies : CookiesSaid → Record L D C → Record L D C
  with_cookies (Ok cookies) r = record r { kept = record r.kept { decoded = Some cookies } }
  with_cookies (Err error) r = r

  abbrev pub with_raw_cookies : CookiesSaid → Record L D C → Record L D C
  with_raw_cookies (Ok cookies) r = record r { kept = record r.kept { raw = Some cookies } }
  with_raw_cookies (Err error) r = r

-- the first cookie of this name
abbrev pub cookie_named : List ℕ → CookiesSaid → Option CookieFields
cookie_named name (Ok cookies) =
    option_map cookie_of_pair (find (λ pair. bytes_eq pair.name name) cookies)
cookie_named name (Err error) = None
