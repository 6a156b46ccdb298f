-- Bodies above a limit, and the replies to them.
use Rattle.std.specs.Prelude.{◌≡◌, ◌<◌, ⊤, ℕ, List, None, Some, length}
use Rattle.http_header.specs.FieldValue.{FieldValue}
use Rattle.http_header.specs.HeaderMap.{Entries}
use Rattle.web_request.specs.declared.source.Mark.{Mark}
use Rattle.web_request.specs.Body.{piece_bytes}
use Rattle.web_body.specs.HeadTests.{refusal_by}
use Rattle.web_body.specs.Payload.{payload_feed}
use Rattle.web_body.specs.PayloadSettings.{PayloadSettings}
use Rattle.web_extract.specs.BodyArguments.{type_refusal}
use Rattle.web_extract.specs.StringArgument.{string_refusal}
use Rattle.web_worker.specs.Exchanges.{ExchangeView}
use Rattle.web_worker.specs.Outcomes.{OutcomeView, OutcomeView.Replied}
use Rattle.web_worker.specs.Outcomes.{OutcomeView.Unfinished, OutcomeView.NoMemory}
use Rattle.web_worker.specs.PlanOutcomes.{AllowedOutcome}
use Rattle.web_worker.specs.Setting.{Setting}

-- the head refuses nothing: no type that is required, no length and no coding
pub record IsFineForBytes (settings : PayloadSettings) (headers : Entries FieldValue) : Type 0 where
  pub typed : type_refusal settings.required_type headers ≡ None
  pub sized : refusal_by headers settings.limit ≡ None

-- the same, and no charset
pub record IsFineForText (settings : PayloadSettings) (headers : Entries FieldValue) : Type 0 where
  pub typed : string_refusal settings headers ≡ None
  pub sized : refusal_by headers settings.limit ≡ None

-- the reply has status 413, an allocation failed, or the plan polled too seldom
abbrev pub IsTooLarge : OutcomeView → Type 0
IsTooLarge (Replied r) = r.head.status ≡ 413
IsTooLarge Unfinished = ⊤
IsTooLarge NoMemory = ⊤

-- An exchange whose head refuses nothing, and whose body has more bytes than the limit: whatever
-- the handler promises, each outcome that its polls allow is 413, or the two that give no reply.
abbrev pub RefusesOver : {S L D C V K : Type 0} → Setting S L D C V K
    → (ExchangeView S L D C → PayloadSettings)
    → (PayloadSettings → ExchangeView S L D C → Type 0) → Type 0
RefusesOver {S} {L} {D} {C} s settings fine =
    (x : ExchangeView S L D C) (m : List Mark) → (payload_feed s.feed x.body).marks ≡ Some m
    → fine (settings x) x → (settings x).limit < length (piece_bytes m)
    → (polls : ℕ) (o : OutcomeView) → AllowedOutcome s polls x o → IsTooLarge o
