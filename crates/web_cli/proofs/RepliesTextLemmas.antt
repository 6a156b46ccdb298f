-- From the outcomes and the calls of a plan to the text of the replies and the calls for a script.
use Rattle.std.proofs.Common.{◌≡◌, ℕ, zero, suc, ◌+◌, ◌≤◌, Bool, true, false, cond, List, [], ◌∷◌, ◌++◌}
use Rattle.std.proofs.Common.{map, length, refl, inl, inr, arith, ◌∙◌, ap, subst, Global}
use Rattle.std.specs.Prelude.{Option, Result, Ok, Err, Vec, IfOk, OnOk}
use Rattle.std.specs.List.{AllPass, enumerate_from, list_any}
use Rattle.std.specs.Option.{option_map}
use Rattle.std.proofs.lemmas.List.Elements.{All-head, All-tail}
use Rattle.web_texts.proofs.LastCutLemmas.{or_false}
use Rattle.web_request.specs.Body.{is_body}
use Rattle.web_request.specs.Feed.{Feed}
use Rattle.web_request.specs.Pool.{Pool}
use Rattle.web_reply.specs.ResponseBodies.{Plain}
use Rattle.web_reply.specs.Replies.{Fault, Reply}
use Rattle.web_worker.specs.Exchanges.{ExchangeView, FlightView, FlightView.Waiting}
use Rattle.web_worker.specs.Flights.{flight_outcome}
use Rattle.web_worker.specs.Outcomes.{OutcomeView}
use Rattle.web_worker.specs.OutcomeFunctions.{AnswersOnce, DeterministicOutcomes, IsOutcome}
use Rattle.web_worker.specs.PlanCalls.{DeterministicCalls}
use Rattle.web_worker.specs.PlanOutcomes.{EachFrom, lacks_memory, outcome_of, poll_count}
use Rattle.web_worker.specs.PlanPools.{EachAnswersOnce, IsPoolAfter}
use Rattle.web_worker.specs.PoolRun.{NotTaken, SerialState, return_held, run_entries}
use Rattle.web_worker.specs.RecordsMade.{is_waiting, waiting_count}
use Rattle.web_worker.proofs.CallsFunctionLemmas.{calls_of_map}
use Rattle.cli_print.specs.OutcomeText.{print}
use Rattle.cli_print.specs.SummaryText.{summary}
use Rattle.cli_script.specs.Script.{ScriptView}
use Rattle.cli_script.specs.ScriptedView.{ScriptedExchangeView}
use Rattle.demo_app.specs.declared.layer.DemoLayer.{DemoLayer}
use Rattle.demo_app.specs.declared.app.DemoLocal.{DemoLocal}
use Rattle.demo_app.specs.declared.app.DemoConn.{DemoConn}
use Rattle.web_cli.specs.DemoExchanges.{demo_exchange, demo_pool}
use Rattle.demo_app.specs.ServiceFunctions.{ArgumentFunctions, ArgumentsMeet}
use Rattle.demo_app.specs.ServiceFunctions.{HandlerFunctions, HandlerMeets, delay_of, reply_of}
use Rattle.web_cli.specs.ScriptAnswers.{AppendsCallsTo, AreRepliesTo, IsServed, arguments_of, calls_to}
use Rattle.web_cli.specs.ScriptAnswers.{delay_in, outcome_in, replies_to, script_outcomes, script_pool}
use Rattle.web_cli.specs.LoadTexts.{IsSummaryOf, replay_capacity, summary_of}
use Rattle.web_cli.proofs.DemoSettingLemmas.{DemoRules, all_once, all_same, answers_once}
use Rattle.web_cli.proofs.DemoSettingLemmas.{demo_setting, worker_arguments}

one_outcome : (d : ℕ) (r : Reply Plain) (n : ℕ) (o : OutcomeView)
    → IsOutcome d r n o → lacks_memory o ≡ false → o ≡ outcome_of d r n
one_outcome d r n o (inl e) some = let t : lacks_memory o ≡ true = rw e refl in absurd (cc)
one_outcome d r n o (inr e) some = e

states_map : (es : List ScriptedExchangeView)
    → map (λ _. NotTaken) (map demo_exchange es) ≡ map (λ _. NotTaken) es
states_map [] = refl
states_map (e ∷ es) = ap (λ (states : List SerialState). NotTaken ∷ states) (states_map es)

module _ {V E Y U W : Type 0} (R : DemoRules V E Y)
    (converted : (e : E) → (f : Fault) × R.converts e f)
    (arguments : U → ℕ → Result V E → Type 0) (handling : W → ℕ → Y → Type 0)
    (a : ArgumentFunctions V) (meets : ArgumentsMeet R.means R.converts a) where
  module _ (h : HandlerFunctions V) (handles : HandlerMeets R.answers R.responds h) where
    abbrev Determined : List ℕ → ℕ → ExchangeView Feed DemoLayer DemoLocal DemoConn → OutcomeView
        → Type 0
    Determined plan k x o =
        (d : ℕ) (r : Reply Plain) → AnswersOnce (demo_setting R arguments handling) x d r
        → IsOutcome d r (poll_count plan k) o

    outcomes_from : (plan : List ℕ) (i : ℕ) (es : List ScriptedExchangeView) (os : List OutcomeView)
        → EachFrom (λ k x o. Determined plan k x o) i (map demo_exchange es) os
        → AllPass (λ e. is_body e.marks) es → list_any lacks_memory os ≡ false
        → os ≡ map (outcome_in a h plan) (enumerate_from i es)
    outcomes_from plan i [] [] s all some = refl
    outcomes_from plan i (e ∷ es) (o ∷ os) s all some =
        let body = All-head (λ (y : ScriptedExchangeView). is_body y.marks ≡ true) e es all in
        let more = All-tail (λ (y : ScriptedExchangeView). is_body y.marks ≡ true) e es all in
        let each = or_false (lacks_memory o) (list_any lacks_memory os) some in
        let once = answers_once R converted a h meets handles arguments handling e body in
        let is = s.0 (delay_of a h e) (reply_of a h e) once in
        rw (
          ← outcomes_from plan (i + 1) es os s.1 more each.1,
          one_outcome (delay_of a h e) (reply_of a h e) (poll_count plan i) o is each.0,
        ) refl
    outcomes_from plan i [] (o ∷ os) s all some = absurd s
    outcomes_from plan i (e ∷ es) [] s all some = absurd s

    -- each exchange has the delay that the pool is computed with
    each_once : (es : List ScriptedExchangeView) → AllPass (λ e. is_body e.marks) es
        → EachAnswersOnce (demo_setting R arguments handling) (map demo_exchange es)
        (delay_in a h es)
    each_once [] all k x at = absurd cc
    each_once (e ∷ es) all zero x at =
        let body = All-head (λ (y : ScriptedExchangeView). is_body y.marks ≡ true) e es all in
        let same : demo_exchange e ≡ x = cc in (
          reply_of a h e,
          subst (λ (y : ExchangeView Feed DemoLayer DemoLocal DemoConn).
              AnswersOnce (demo_setting R arguments handling) y (delay_of a h e) (reply_of a h e))
              same (answers_once R converted a h meets handles arguments handling e body),
        )
    each_once (e ∷ es) all (suc k) x at =
        each_once es (All-tail (λ (y : ScriptedExchangeView). is_body y.marks ≡ true) e es all) k x at

    -- where no allocation failed, the pool is the one that the script leaves
    pub pool_is : (capacity : ℕ) (s : ScriptView) (os : List OutcomeView) (new : Pool DemoLayer)
        → IsPoolAfter (demo_setting R arguments handling) s.plan (map demo_exchange s.exchanges) os
        (demo_pool capacity) new
        → AllPass (λ e. is_body e.marks) s.exchanges → list_any lacks_memory os ≡ false
        → new ≡ script_pool a h capacity s
    pool_is capacity s os new left all some =
        let delays = delay_in a h s.exchanges in
        left delays (each_once s.exchanges all) some
        ∙ ap (λ (states : List SerialState).
        let ran = run_entries delays (demo_pool capacity) states [] s.plan in
        return_held ran.0 ran.1) (states_map s.exchanges)

    -- where no allocation failed, the outcomes are those of the script
    pub outcomes_are : (s : ScriptView) (os : List OutcomeView)
        → DeterministicOutcomes (demo_setting R arguments handling) s.plan
        (map demo_exchange s.exchanges) os
        → AllPass (λ e. is_body e.marks) s.exchanges → list_any lacks_memory os ≡ false
        → os ≡ script_outcomes a h s
    outcomes_are s os served all some = outcomes_from s.plan 0 s.exchanges os served all some

  -- and the list of calls, where the handler keeps one, grew by those for the script
  pub calls_are : (s : ScriptView) (os : List OutcomeView) (old new : Option (List V))
      → DeterministicCalls (demo_setting R arguments handling) s.plan
      (map demo_exchange s.exchanges) os old new
      → AllPass (λ e. is_body e.marks) s.exchanges → list_any lacks_memory os ≡ false
      → new ≡ option_map (λ calls. calls ++ calls_to a s) old
  calls_are s os old new called bodies some =
      called (worker_arguments a) (all_once R converted arguments handling a meets s.exchanges bodies)
      some
      ∙ ap (λ (vs : List V). option_map (λ calls. calls ++ vs) old)
      (calls_of_map demo_exchange (worker_arguments a) (arguments_of a) s.exchanges s.plan
      (all_same R converted arguments handling a meets s.exchanges bodies))

pub on_ok : {T E : Type 0} (r : Result T E) (P : Type 0) → P → OnOk r P
on_ok (Ok x) P p = p
on_ok (Err e) P p = tt

module _ {V E Y X : Type 0} (R : DemoRules V E Y)
    (r : Result (Vec ℕ Global) X) (capacity : ℕ) (script : ScriptView) (os : List OutcomeView)
    (pool : Pool DemoLayer) (served : IsServed R capacity script os pool) where
  -- the printed outcomes are the text of the replies
  pub printed_replies : (serials : List ℕ) (made : ℕ) → serials ≡ pool.serials → made ≡ pool.made
      → IfOk r (λ text. text.items ≡ print os serials made)
      → IfOk r (λ text. AreRepliesTo R capacity script text.items)
  unfolding replies_to
  printed_replies serials made none records is = replies r is
    where
      replies : (t : Result (Vec ℕ Global) X) → IfOk t (λ text. text.items ≡ print os serials made)
          → IfOk t (λ text. AreRepliesTo R capacity script text.items)
      replies (Ok text) is = λ a h meets handles.
          let left = served.pool_left a h meets handles in
          rw (
            served.outcomes a h meets handles,
            none ∙ ap (λ (p : Pool DemoLayer). p.serials) left,
            records ∙ ap (λ (p : Pool DemoLayer). p.made) left,
          ) at is
      replies (Err e) is = tt

module _ {V E Y X : Type 0} (R : DemoRules V E Y)
    (r : Result (Vec ℕ Global) X) (script : ScriptView) (os : List OutcomeView)
    (pool : Pool DemoLayer) (served : IsServed R replay_capacity script os pool) where
  -- the summary of the outcomes is that of the script
  pub summarized_script : (script_len made : ℕ) → made ≡ pool.made
      → IfOk r (λ text. text.items ≡ summary script_len os made)
      → IfOk r (λ text. IsSummaryOf R script_len script text.items)
  unfolding summary_of
  summarized_script script_len made records is = summarized r is
    where
      summarized : (t : Result (Vec ℕ Global) X)
          → IfOk t (λ text. text.items ≡ summary script_len os made)
          → IfOk t (λ text. IsSummaryOf R script_len script text.items)
      summarized (Ok text) is = λ a h meets handles.
          let left = served.pool_left a h meets handles in
          rw (
            served.outcomes a h meets handles,
            records ∙ ap (λ (p : Pool DemoLayer). p.made) left,
          ) at is
      summarized (Err e) is = tt

module _ {V E Y X : Type 0} (R : DemoRules V E Y)
    (r : Result (Vec ℕ Global) X) (x y : ScriptView) (same : x ≡ y) where
  -- the same of one script, seen twice
  pub summary_same : (n m : ℕ) → n ≡ m → IfOk r (λ text. IsSummaryOf R n x text.items)
      → IfOk r (λ text. IsSummaryOf R m y text.items)
  summary_same n m len h =
      subst (λ (k : ℕ). IfOk r (λ text. IsSummaryOf R k y text.items)) len
      (subst (λ (v : ScriptView). IfOk r (λ text. IsSummaryOf R n v text.items)) same h)

  pub calls_same : (old new : Option (List V)) → OnOk r (AppendsCallsTo R old new x)
      → OnOk r (AppendsCallsTo R old new y)
  calls_same old new h =
      subst (λ (v : ScriptView). OnOk r (AppendsCallsTo R old new v)) same h

at_most_one : (b : Bool) → cond b 1 0 ≤ 1
at_most_one true = omega arith
at_most_one false = omega arith

pub numbers_same : (plan : List ℕ) → map (λ n. n) plan ≡ plan
numbers_same [] = refl
numbers_same (n ∷ plan) = ap (λ ns. n ∷ ns) (numbers_same plan)

module _ {S L D C K : Type 0} where
  abbrev waiting_flight : ExchangeView S L D C → FlightView S L D C K
  waiting_flight x = Waiting x

  mapped_twice : {Z : Type 0} (f : Z → ExchangeView S L D C) (zs : List Z)
      → map (λ z. waiting_flight (f z)) zs ≡ map (λ x. waiting_flight x) (map f zs)
  mapped_twice f [] = refl
  mapped_twice f (z ∷ zs) = ap (λ fs. waiting_flight (f z) ∷ fs) (mapped_twice f zs)

  -- flights that wait for what a script describes, as flights that wait for the worker's exchanges
  pub waiting_exchanges : {Z : Type 0} (f : Z → ExchangeView S L D C) (zs : List Z)
      (fs : List (FlightView S L D C K)) → fs ≡ map (λ z. Waiting (f z)) zs
      → fs ≡ map (λ x. Waiting x) (map f zs)
  waiting_exchanges f zs fs e = e ∙ mapped_twice f zs

  -- at most all flights wait
  pub waiting_at_most : (fs : List (FlightView S L D C K)) → waiting_count fs ≤ length fs
  waiting_at_most [] = omega arith
  waiting_at_most (f ∷ fs) =
      let more = waiting_at_most fs in
      let one = at_most_one (is_waiting f) in
      omega (arith, more, one)

  -- some flight lacks memory where some outcome does
  pub any_outcome : (fs : List (FlightView S L D C K))
      → list_any lacks_memory (map (λ f. flight_outcome f) fs)
      ≡ list_any (λ f. lacks_memory (flight_outcome f)) fs
  any_outcome [] = refl
  any_outcome (f ∷ fs) = rw (any_outcome fs) refl
