-- The URL of a request, and what reading it gives.
use Rattle.std.specs.Prelude.{◌≡◌, ◌≢◌, ◌||◌, ◌++◌, ℕ, List, None, Result, Ok, Err, codes, is_some}
use Rattle.std.specs.Prelude.{not, if◌then◌else◌}
use Rattle.http_uri.specs.Grammar.{or_slash}
use Rattle.url.specs.declared.error.ParseError.{ParseError}
use Rattle.url.specs.declared.error.ParseError.TheVariants.{OutOfMemory, Overflow}
use Rattle.url.specs.Parser.{Parsed, parse_url}
use Rattle.url.specs.Parts.{Parts}
use Rattle.web_texts.specs.declared.memory.Fail.{Fail}
use Rattle.web_texts.specs.declared.memory.Fail.TheVariants as fail
use Rattle.web_request.specs.Head.{Target, head_target}
use Rattle.web_request.specs.KeptValues.{known_connection}
use Rattle.web_request.specs.Request.{Record}

-- the path with the query, or `/` where the target has no path
abbrev pub url_target : Target → List ℕ
url_target target =
    if is_some target.scheme || not (is_some target.authority) then or_slash target.path_and_query
    else codes "/"

abbrev pub url_text : List ℕ → List ℕ → List ℕ → List ℕ
url_text scheme host target = scheme ++ codes "://" ++ host ++ target

-- what the URL Standard's parser says of the URL of a request
abbrev pub url_said : {L D C : Type 0} → Record L D C → Parsed Parts
url_said r =
    let connection = known_connection r in
    parse_url None (url_text connection.scheme connection.host
    (url_target (head_target r.request.head)))

-- the parser's own cause, and no want of memory or room
pub record IsCause (cause : ParseError) (said : Parsed Parts) : Type 0 where
  pub said_is : said ≡ Err cause
  pub has_room : cause ≢ Overflow
  pub has_memory : cause ≢ OutOfMemory

abbrev pub RefusesUrl : Fail ParseError → Parsed Parts → Type 0
RefusesUrl fail.NoMemory said = Unit {0}
RefusesUrl (fail.Of cause) said = IsCause cause said

-- The URL that the parser says, or the cause that it says. Of want of memory nothing is said.
abbrev pub ReadsUrl : Result Parts (Fail ParseError) → Parsed Parts → Type 0
ReadsUrl (Ok url) said = said ≡ Ok url
ReadsUrl (Err error) said = RefusesUrl error said
