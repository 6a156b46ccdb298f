-- Bodies above a limit, and the replies to them.
use Rattle.std.proofs.Common.{◌≡◌, ℕ, ◌<◌, List, length, refl, ◌∙◌, ap, subst}
use Rattle.std.specs.Prelude.{Option, None, Some, Result, Ok, Err, ⊤, MatchOption, String}
use Rattle.std.specs.Global.{Global}
use Rattle.http_header.specs.FieldValue.{FieldValue}
use Rattle.http_header.specs.HeaderMap.{Entries}
use Rattle.web_request.specs.declared.source.Mark.{Mark}
use Rattle.web_request.specs.Body.{piece_bytes}
use Rattle.web_request.specs.Feed.{Feed}
use Rattle.web_request.specs.Pool.{Pool}
use Rattle.web_request.specs.Request.{Request}
use Rattle.web_body.specs.HeadTests.{refusal_by}
use Rattle.web_body.specs.Payload.{payload_feed}
use Rattle.web_body.specs.PayloadSettings.{PayloadSettings}
use Rattle.web_body.specs.declared.message_body.PayloadError.TheVariants.{Overflow}
use Rattle.web_body.proofs.CuttingLemmas.{passes}
use Rattle.web_reply.specs.ResponseBodies.{Plain}
use Rattle.web_reply.specs.Replies.{Fault, Reply}
use Rattle.web_extract.specs.ArgumentLists.{ConvertsRefusal}
use Rattle.web_extract.specs.BodyArguments.{body_result, payload_fault}
use Rattle.web_extract.specs.BytesArgument.{MeansBytes}
use Rattle.web_extract.specs.CappedArguments.{GivesCapped, capped_settings, wrapped}
use Rattle.web_extract.specs.CollectedResults.{One}
use Rattle.web_extract.specs.ListMeanings.{ArgumentMeaning, Means1, Member}
use Rattle.web_extract.specs.declared.body.capped_argument.Capped.{Capped}
use Rattle.web_extract.specs.StringArgument.{MeansString, bytes_of, decoded, string_refusal}
use Rattle.web_worker.specs.Exchanges.{ExchangeView, request_of}
use Rattle.web_worker.specs.ExchangeRules.{After, Replies, Rules}
use Rattle.web_worker.specs.Flights.{ExchangeGives}
use Rattle.web_worker.specs.Outcomes.{OutcomeView}
use Rattle.web_worker.specs.Outcomes.{OutcomeView.Replied, OutcomeView.Unfinished, OutcomeView.NoMemory}
use Rattle.web_worker.specs.PlanOutcomes.{AllowedOutcome}
use Rattle.web_worker.specs.HandlerServices.{handler_setting, rules_of}
use Rattle.web_cutting.specs.OverLimit.{IsFineForBytes, IsFineForText, IsTooLarge, RefusesOver}

body_over : (refusal : Option Fault) (limit : ℕ) (headers : Entries FieldValue) (m : List Mark) → refusal ≡ None → refusal_by headers limit ≡ None
    → limit < length (piece_bytes m) → (body_result refusal limit headers m).result ≡ Err (payload_fault Overflow)
body_over refusal limit headers m none fine over =
    let p = passes limit m over in
    rw (none, fine, p.1) refl

-- the arguments are refused for the size of the body alone
abbrev pub OverAlone : {V : Type 0} → Result V Fault → Type 0
OverAlone x = x ≡ Err (payload_fault Overflow)

pub bytes_over : (settings : PayloadSettings) (headers : Entries FieldValue) (m : List Mark) → IsFineForBytes settings headers → settings.limit < length (piece_bytes m)
    → (rest : List Mark) (n : ℕ) (x : Result (List ℕ) Fault) → MeansBytes settings headers m rest n x → OverAlone x
bytes_over settings headers m fine over rest n x d = d.2 ∙ body_over _ settings.limit headers m fine.typed fine.sized over

text_refused : (x : Result (String Global) Fault) (e : Fault) → bytes_of x ≡ Err e → x ≡ Err e
text_refused (Ok v) e h = absurd (cc h)
text_refused (Err f) e h = let d : f ≡ e = cc h in rw d refl

pub string_over : (settings : PayloadSettings) (headers : Entries FieldValue) (m : List Mark) → IsFineForText settings headers → settings.limit < length (piece_bytes m)
    → (rest : List Mark) (n : ℕ) (x : Result (String Global) Fault) → MeansString settings headers m rest n x → OverAlone x
string_over settings headers m fine over rest n x d =
    text_refused x (payload_fault Overflow) (d.2 ∙ ap decoded (d.1.2 ∙ body_over _ settings.limit headers m fine.typed fine.sized over))

module _ {L D C V Y : Type 0} (R : Rules L D C V Fault Y) (own : (e f : Fault) → R.converts e f → f ≡ e) (q : Request L D C) (m : List Mark)
    (over : (rest : List Mark) (n : ℕ) (x : Result V Fault) → R.means q m rest n x → OverAlone x) where
  after_over : (n : ℕ) (x : Result V Fault) → OverAlone x → (d : ℕ) (r : Reply Plain) → After R q n x d r → r.head.status ≡ 413
  after_over n (Ok v) is d r h = absurd (cc is)
  after_over n (Err e) is d r h =
      let k : e ≡ payload_fault Overflow = cc is in
      let f : h.1.0 ≡ payload_fault Overflow = own e h.1.0 h.1.1 ∙ k in
      rw (h.1.2, f) refl

  pub replies_over : (d : ℕ) (r : Reply Plain) → Replies R q m d r → r.head.status ≡ 413
  replies_over d r (rest, n, x, means, after) = after_over n x (over rest n x means) d r after

module _ {S L D C V Y U W : Type 0} (means : Request L D C → ArgumentMeaning V Fault) (converts : Fault → Fault → Type 0) (answers : V → ℕ → Y → Type 0)
    (responds : Y → Request L D C → Reply Plain → Type 0) (feed : S → Feed) (arguments : U → ℕ → Result V Fault → Type 0) (handling : W → ℕ → Y → Type 0) (pool : Pool L)
    (own : (e f : Fault) → converts e f → f ≡ e) (x : ExchangeView S L D C) where
  reply_over : (marks : Option (List Mark)) (m : List Mark) → marks ≡ Some m
      → ((rest : List Mark) (n : ℕ) (v : Result V Fault) → means (request_of pool x) m rest n v → OverAlone v)
      → (d : ℕ) (r : Reply Plain) → MatchOption marks ⊤ (λ m. Replies (rules_of means converts answers responds) (request_of pool x) m d r) → r.head.status ≡ 413
  reply_over None m is over d r h = absurd (cc is)
  reply_over (Some k) m is over d r h =
      let e : k ≡ m = cc is in
      replies_over (rules_of means converts answers responds) own (request_of pool x) m over d r (subst (λ (l : List Mark). Replies (rules_of means converts answers responds) (request_of pool x) l d r) e h)

  pub outcome_over : (m : List Mark) → (payload_feed feed x.body).marks ≡ Some m
      → ((rest : List Mark) (n : ℕ) (v : Result V Fault) → means (request_of pool x) m rest n v → OverAlone v)
      → (polls : ℕ) (o : OutcomeView) → AllowedOutcome (handler_setting means converts answers responds feed arguments handling pool) polls x o → IsTooLarge o
  outcome_over m is over polls (Replied r) (d, less, gives) = reply_over (payload_feed feed x.body).marks m is over d r gives
  outcome_over m is over polls Unfinished allowed = tt
  outcome_over m is over polls NoMemory allowed = tt

-- of such a place alone in a list, and under a cap
abbrev pub Own : {V : Type 0} → ArgumentMeaning V Fault → ArgumentMeaning V Fault
Own means = Member (λ e x. x ≡ e) means

place_over : {V : Type 0} (gives : ℕ → Result V Fault → Type 0) → ((n : ℕ) (x : Result V Fault) → gives n x → OverAlone x)
    → (n : ℕ) (x : Result V Fault) → ConvertsRefusal (λ e y. y ≡ e) gives n x → OverAlone x
place_over gives over n (Ok v) d = over n (Ok v) d
place_over gives over n (Err e) d = let k : d.0 ≡ payload_fault Overflow = cc (over n (Err d.0) d.1) in rw (d.2, k) refl

pub one_over : {V : Type 0} (means : ArgumentMeaning V Fault) (m : List Mark)
    → ((rest : List Mark) (n : ℕ) (x : Result V Fault) → means m rest n x → OverAlone x)
    → (rest : List Mark) (n : ℕ) (x : Result (One V) Fault) → Means1 (Own means) m rest n x → OverAlone x
one_over means m over rest n (Ok v) d = absurd (cc (over rest n (Ok v.0) d))
one_over means m over rest n (Err e) d = let k : e ≡ payload_fault Overflow = cc (place_over (means m rest) (over rest) n (Err e) d) in rw k refl

pub capped_over : {V : Type 0} {cap : ℕ} (means : ArgumentMeaning V Fault) (m : List Mark)
    → ((rest : List Mark) (n : ℕ) (x : Result V Fault) → means m rest n x → OverAlone x)
    → (rest : List Mark) (n : ℕ) (x : Result (Capped V cap) Fault) → GivesCapped (means m rest) n x → OverAlone x
capped_over {V} {cap} means m over rest n x d = d.2 ∙ ap (λ (y : Result V Fault). wrapped {cap = cap} y) (over rest n d.0 d.1)

module _ {S L D C V Y U W : Type 0} (means : Request L D C → ArgumentMeaning V Fault) (converts : Fault → Fault → Type 0) (own : (e f : Fault) → converts e f → f ≡ e)
    (answers : V → ℕ → Y → Type 0) (responds : Y → Request L D C → Reply Plain → Type 0) (feed : S → Feed)
    (arguments : U → ℕ → Result V Fault → Type 0) (handling : W → ℕ → Y → Type 0) (pool : Pool L)
    (settings : Request L D C → PayloadSettings) (fine : PayloadSettings → Request L D C → Type 0)
    (over : (q : Request L D C) (m : List Mark) → fine (settings q) q → (settings q).limit < length (piece_bytes m)
    → (rest : List Mark) (n : ℕ) (x : Result V Fault) → means q m rest n x → OverAlone x) where
  pub refuses_over : RefusesOver (handler_setting means converts answers responds feed arguments handling pool)
      (λ x. settings (request_of pool x)) (λ s x. fine s (request_of pool x))
  refuses_over x m is fine_for above polls o allowed =
      outcome_over means converts answers responds feed arguments handling pool own x m is (over (request_of pool x) m fine_for above) polls o allowed
