-- Requests for tests, step by step.
use Rattle.std.specs.Prelude.{◌≡◌, ℕ, List, [], ◌∷◌, ◌++◌, None, Some, Result, Ok, Err, ⊤}
use Rattle.http.specs.declared.version.TheConstants.Version.{HTTP_11}
use Rattle.http_header.specs.FieldValue.{plain_value}
use Rattle.http_uri.specs.Grammar.{IsUriText}
use Rattle.http_uri.specs.Uri.{SpellsNone}
use Rattle.web_texts.specs.Pairs.{Pair}
use Rattle.web_body.specs.declared.payload.Payload.TheVariants as payload
use Rattle.web_request.specs.Head.{Head}
use Rattle.web_request.specs.declared.peers.address.SocketAddr.{SocketAddr}
use Rattle.web_reply.specs.declared.errors.cause.HttpError.{HttpError}
use Rattle.web_reply.specs.declared.header_setting.Placing.TheVariants.{Append}
use Rattle.web_reply.specs.HeaderSteps.{Headers, named, place_one}
use Rattle.web_worker.specs.Exchanges.{ExchangeView}
use Rattle.web_testing.specs.declared.error.TestError.{TestError}
use Rattle.web_testing.specs.declared.error.TestError.TheVariants.{Target, Header, NoMemory}

-- a request, with its body in one piece
pub record Sent : Type 0 where
  pub head : Head
  pub params : List Pair
  pub body : List ℕ

-- a request of the method with this name, whose target is written so, with nothing else
pub record IsNew (name text : List ℕ) (sent : Sent) : Type 0 where
  pub target : IsUriText text sent.head.scheme sent.head.authority sent.head.target
  pub method : sent.head.method ≡ name
  pub version : sent.head.version ≡ HTTP_11
  pub headers : sent.head.headers ≡ []
  pub peer : sent.head.peer ≡ None
  pub params : sent.params ≡ []
  pub body : sent.body ≡ []

-- the text is no target, or an allocation failed
abbrev pub RefusesTarget : List ℕ → TestError → Type 0
RefusesTarget target Target = SpellsNone target
RefusesTarget target NoMemory = ⊤
RefusesTarget target _ = ⊥

-- what a step makes of a request; a refusal stays
abbrev pub map_sent : {X : Type 0} → (Sent → X) → Result Sent TestError → Result X TestError
map_sent step (Ok sent) = Ok (step sent)
map_sent step (Err e) = Err e

abbrev pub with_headers : Sent → Result Headers HttpError → Result Sent TestError
with_headers sent (Ok headers) =
    Ok (record sent { head = record sent.head { headers = headers } })
with_headers sent (Err e) = Err (Header e)

-- one more header after those of its name, or why it is refused
abbrev pub with_header :
    List ℕ → List ℕ → Result Sent TestError → Result Sent TestError
with_header name value (Ok sent) =
    with_headers sent (place_one Append (named name (plain_value value)) sent.head.headers)
with_header name value (Err e) = Err e

abbrev pub with_param : List ℕ → List ℕ → Result Sent TestError → Result Sent TestError
with_param name value sent = map_sent (λ s. record s {
  params = s.params ++ record { name = name; value = value } ∷ [];
}) sent

abbrev pub with_body : List ℕ → Result Sent TestError → Result Sent TestError
with_body body sent = map_sent (λ s. record s { body = body }) sent

abbrev pub with_peer : SocketAddr → Sent → Sent
with_peer peer sent = record sent { head = record sent.head { peer = Some peer } }

-- this is what it comes to, unless an allocation failed
abbrev pub ComesTo : Result Sent TestError → Result Sent TestError → Type 0
ComesTo expected (Err NoMemory) = ⊤
ComesTo expected found = found ≡ expected

-- the exchange of a request, without layers and data
abbrev pub exchange_of : {S L D C : Type 0} → Sent → ExchangeView S L D C
exchange_of sent = record {
  parts = record {
    head = sent.head;
    params = sent.params;
    layers = [];
    conn = None;
    local = None;
  };
  body = payload.Whole sent.body;
}
