-- The exchanges of a script in the setting of the program's worker.
use Rattle.std.proofs.Common.{◌≡◌, ℕ, ◌+◌, ◌<◌, List, [], ◌∷◌, arith, refl, ◌∙◌, true}
use Rattle.std.proofs.Common.{map, sym, subst}
use Rattle.std.specs.Prelude.{Option, None, Some, Result, Ok, Err, unwrap_or}
use Rattle.std.specs.List.{All, AllPass}
use Rattle.std.specs.Result.{result_ok}
use Rattle.std.proofs.lemmas.List.Elements.{All-cons, All-head, All-nil, All-tail}
use Rattle.web_request.specs.declared.source.Mark.{Mark}
use Rattle.web_request.specs.Body.{is_body}
use Rattle.web_request.specs.Feed.{Feed}
use Rattle.web_body.specs.declared.payload.Payload.{Payload}
use Rattle.web_body.specs.Payload.{payload_feed}
use Rattle.web_body.proofs.EmptyPiecesLemmas.{body_same}
use Rattle.web_reply.specs.ResponseBodies.{Plain}
use Rattle.web_reply.specs.Replies.{Fault, Reply}
use Rattle.web_worker.specs.Exchanges.{ExchangeView, request_of}
use Rattle.web_worker.specs.ExchangeRules.{Rules, After, Replies, ComesBefore, RepliesBefore}
use Rattle.web_worker.specs.OutcomeFunctions.{AnswersOnce}
use Rattle.web_worker.specs.PlanCalls.{ArgumentsOnce}
use Rattle.web_worker.specs.declared.handler_service.Work.{Work}
use Rattle.web_worker.specs.HandlerServices.{Come, Means, request_promise, work_promise}
use Rattle.web_worker.specs.Setting.{Setting, setting_of}
use Rattle.cli_script.specs.ScriptedView.{ScriptedExchangeView}
use Rattle.demo_app.specs.declared.layer.DemoLayer.{DemoLayer}
use Rattle.demo_app.specs.declared.app.DemoLocal.{DemoLocal}
use Rattle.demo_app.specs.declared.app.DemoConn.{DemoConn}
use Rattle.demo_app.specs.DemoRequests.{DemoRequest, demo_request}
use Rattle.demo_app.specs.ServiceFunctions.{ArgumentFunctions, ArgumentsMeet, ConvertsTo}
use Rattle.demo_app.specs.ServiceFunctions.{HandlerFunctions, HandlerMeets}
use Rattle.demo_app.specs.ServiceFunctions.{delay_from, delay_of, reply_from, reply_of}
use Rattle.web_cli.specs.DemoExchanges.{demo_exchange, demo_pool}
use Rattle.web_cli.specs.ScriptAnswers.{arguments_of}

abbrev pub DemoRules : Type 0 → Type 0 → Type 0 → Type 1
DemoRules V E Y = Rules DemoLayer DemoLocal DemoConn V E Y

-- the setting of these rules and of the program's worker
abbrev pub demo_setting : {V E Y U W : Type 0} → DemoRules V E Y
    → (U → ℕ → Result V E → Type 0) → (W → ℕ → Y → Type 0)
    → Setting Feed DemoLayer DemoLocal DemoConn V (Work U W)
demo_setting rules arguments handling =
    setting_of (λ q. q) (request_promise rules) (work_promise rules arguments handling)
    (λ (f : Feed). f) (demo_pool 0)

module _ {V E Y : Type 0} (R : DemoRules V E Y) (converted : (e : E) → (f : Fault) × R.converts e f)
    (a : ArgumentFunctions V) (h : HandlerFunctions V)
    (meets : ArgumentsMeet R.means R.converts a) (handles : HandlerMeets R.answers R.responds h) where
  after_value : (q : DemoRequest) (d n : ℕ) (v : V) (y : Result V Fault) (k : ℕ) (r : Reply Plain)
      → n ≡ d → y ≡ Ok v → After R q n (Ok v) k r
      → (k ≡ delay_from a h d y) × (r ≡ reply_from a h q y)
  after_value q d n v y k r e f (j, z, answer, response, sum) =
      let one = handles v j z answer in
      let same = one.0 in
      rw f (omega (arith, sum, same, e), one.1 q r response)

  after_refusal : (q : DemoRequest) (d n : ℕ) (e : E) (y : Result V Fault) (k : ℕ) (r : Reply Plain)
      → n ≡ d → ConvertsTo R.converts (Err e) y → After R q n (Err e) k r
      → (k ≡ delay_from a h d y) × (r ≡ reply_from a h q y)
  after_refusal q d n e y k r same turns (after, (f, converts_to, is)) =
      rw (turns f converts_to) (after ∙ same, is)

  replies_once : (q : DemoRequest) (m : List Mark) (k : ℕ) (r : Reply Plain) → Replies R q m k r
      → (k ≡ delay_from a h (a.delay q m) (a.result q m))
      × (r ≡ reply_from a h q (a.result q m))
  replies_once q m k r (rest, n, Ok v, means_it, after) =
      let once = meets q m rest n (Ok v) means_it in
      after_value q (a.delay q m) n v (a.result q m) k r once.0 once.1 after
  replies_once q m k r (rest, n, Err e, means_it, after) =
      let once = meets q m rest n (Err e) means_it in
      after_refusal q (a.delay q m) n e (a.result q m) k r once.0 once.1 after

  comes_value : (d n : ℕ) (v : V) (y : Result V Fault) (polls : ℕ)
      → n ≡ d → y ≡ Ok v → delay_from a h d y < polls → ComesBefore R polls n (Ok v)
  comes_value d n v y polls e f l =
      let small : d + h.wait v < polls = rw f at l in (
        omega (arith, small, e),
        λ j z answer.
            let one = handles v j z answer in
            let same = one.0 in
            omega (arith, small, same, e),
      )

  comes_refusal : (d n : ℕ) (e : E) (y : Result V Fault) (polls : ℕ)
      → n ≡ d → ConvertsTo R.converts (Err e) y → delay_from a h d y < polls
      → ComesBefore R polls n (Err e)
  comes_refusal d n e y polls same turns l =
      let some = converted e in
      let small : d < polls = rw (turns some.0 some.1) at l in
      omega (arith, small, same)

  comes : (d n : ℕ) (x : Result V E) (y : Result V Fault) (polls : ℕ)
      → n ≡ d → ConvertsTo R.converts x y → delay_from a h d y < polls → ComesBefore R polls n x
  comes d n (Ok v) y polls e t l = comes_value d n v y polls e t l
  comes d n (Err x) y polls e t l = comes_refusal d n x y polls e t l

  replies_before : (q : DemoRequest) (m : List Mark) (polls : ℕ)
      → delay_from a h (a.delay q m) (a.result q m) < polls → RepliesBefore R q m polls
  replies_before q m polls l rest n x means_it =
      let once = meets q m rest n x means_it in
      comes (a.delay q m) n x (a.result q m) polls once.0 once.1 l

  -- each exchange of a script has one delay and one reply
  pub answers_once : {U W : Type 0} (arguments : U → ℕ → Result V E → Type 0)
      (handling : W → ℕ → Y → Type 0) (e : ScriptedExchangeView) → is_body e.marks ≡ true
      → AnswersOnce (demo_setting R arguments handling) (demo_exchange e)
      (delay_of a h e) (reply_of a h e)
  answers_once arguments handling e body = record {
    once = λ k r gives. replies_once (demo_request e) e.marks k r (rw (body_same e.marks body) at gives);
    comes = λ n l. rw (body_same e.marks body) (replies_before (demo_request e) e.marks n l);
  }

-- where each result has this delay and this value, so has what is seen of them
come_once : {V E : Type 0} (d : ℕ) (y : Option V) (gives : ℕ → Result V E → Type 0)
    → ((k : ℕ) (z : Result V E) → gives k z → (k ≡ d) × (result_ok z ≡ y))
    → (k : ℕ) (z : Option V) → Come gives k z → (k ≡ d) × (z ≡ y)
come_once d y gives each k (Some v) a = each k (Ok v) a
come_once d y gives each k None a = each k (Err a.0) a.1

-- the marks that a body tells
abbrev known_marks : Payload Feed → List Mark
known_marks b = unwrap_or (payload_feed (λ (f : Feed). f) b).marks []

-- the delay and the value of the arguments of the worker's own exchange
abbrev pub worker_arguments : {V : Type 0} → ArgumentFunctions V
    → ExchangeView Feed DemoLayer DemoLocal DemoConn → ℕ × Option V
worker_arguments a x =
    let q = request_of (demo_pool 0) x in
    (a.delay q (known_marks x.body), result_ok (a.result q (known_marks x.body)))

module _ {V E Y U W : Type 0} (R : DemoRules V E Y)
    (converted : (e : E) → (f : Fault) × R.converts e f)
    (arguments : U → ℕ → Result V E → Type 0) (handling : W → ℕ → Y → Type 0)
    (a : ArgumentFunctions V) (meets : ArgumentsMeet R.means R.converts a) where
  same_value : (z : Result V E) (y : Result V Fault)
      → ConvertsTo R.converts z y → result_ok z ≡ result_ok y
  same_value (Ok v) y t = rw t refl
  same_value (Err e) y t = let some = converted e in rw (t some.0 some.1) refl

  same_arguments : (e : ScriptedExchangeView) → is_body e.marks ≡ true
      → worker_arguments a (demo_exchange e) ≡ arguments_of a e
  same_arguments e body = rw (body_same e.marks body) refl

  pub all_same : (es : List ScriptedExchangeView) → AllPass (λ e. is_body e.marks) es
      → All (λ e. worker_arguments a (demo_exchange e) ≡ arguments_of a e) es
  all_same [] all =
      All-nil (λ (e : ScriptedExchangeView). worker_arguments a (demo_exchange e) ≡ arguments_of a e)
  all_same (e ∷ es) all =
      All-cons (λ (y : ScriptedExchangeView). worker_arguments a (demo_exchange y) ≡ arguments_of a y)
      e es (same_arguments e (All-head (λ (y : ScriptedExchangeView). is_body y.marks ≡ true) e es all))
      (all_same es (All-tail (λ (y : ScriptedExchangeView). is_body y.marks ≡ true) e es all))

  abbrev HaveOnce : ExchangeView Feed DemoLayer DemoLocal DemoConn → Type 0
  HaveOnce x =
      ArgumentsOnce (demo_setting R arguments handling) x
      (worker_arguments a x).0 (worker_arguments a x).1

  arguments_once : (e : ScriptedExchangeView) → is_body e.marks ≡ true
      → ArgumentsOnce (demo_setting R arguments handling) (demo_exchange e)
      (arguments_of a e).0 (arguments_of a e).1
  arguments_once e body =
      rw (body_same e.marks body)
      (come_once (a.delay (demo_request e) e.marks) (result_ok (a.result (demo_request e) e.marks))
      (λ k z. Means R (demo_request e) e.marks k z)
      (λ k z means_it.
      let once = meets (demo_request e) e.marks means_it.0 k z means_it.1 in
      (once.0, same_value z (a.result (demo_request e) e.marks) once.1)))

  one_once : (e : ScriptedExchangeView) → is_body e.marks ≡ true → HaveOnce (demo_exchange e)
  one_once e body =
      subst (λ (d : ℕ × Option V). ArgumentsOnce (demo_setting R arguments handling)
      (demo_exchange e) d.0 d.1) (sym (same_arguments e body)) (arguments_once e body)

  pub all_once : (es : List ScriptedExchangeView) → AllPass (λ e. is_body e.marks) es
      → All (λ x. HaveOnce x) (map demo_exchange es)
  all_once [] all = All-nil (λ x. HaveOnce x)
  all_once (e ∷ es) all =
      All-cons (λ x. HaveOnce x) (demo_exchange e) (map demo_exchange es)
      (one_once e (All-head (λ (y : ScriptedExchangeView). is_body y.marks ≡ true) e es all))
      (all_once es (All-tail (λ (y : ScriptedExchangeView). is_body y.marks ≡ true) e es all))
