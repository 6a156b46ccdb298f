-- Requests that are written in a program.
use Rattle.std.specs.Prelude.{◌≡◌, ℕ, List, [], None, codes, ⊤}
use Rattle.http.specs.declared.version.TheConstants.Version.{HTTP_11}
use Rattle.http_uri.specs.Grammar.{IsUriText}
use Rattle.http_uri.specs.Uri.{SpellsNone}
use Rattle.http_uri.specs.declared.error.UriError.{UriError}
use Rattle.http_uri.specs.declared.error.UriError.TheVariants.{OutOfMemory}
use Rattle.web_body.specs.declared.payload.Payload.TheVariants as payload
use Rattle.web_worker.specs.Exchanges.{ExchangeView}

-- a GET request whose target is written so, with nothing else
pub record IsGet {S L D C : Type 0} (text : List ℕ) (x : ExchangeView S L D C) : Type 0 where
  pub target : IsUriText text x.parts.head.scheme x.parts.head.authority x.parts.head.target
  pub method : x.parts.head.method ≡ codes "GET"
  pub version : x.parts.head.version ≡ HTTP_11
  pub headers : x.parts.head.headers ≡ []
  pub peer : x.parts.head.peer ≡ None
  pub params : x.parts.params ≡ []
  pub layers : x.parts.layers ≡ []
  pub conn : x.parts.conn ≡ None
  pub local : x.parts.local ≡ None
  pub body : x.body ≡ payload.None

-- the text is no target, or an allocation failed
abbrev pub RefusesTarget : List ℕ → UriError → Type 0
RefusesTarget text OutOfMemory = ⊤
RefusesTarget text _ = SpellsNone text
