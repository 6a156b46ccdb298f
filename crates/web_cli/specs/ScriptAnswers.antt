-- The text of the replies to a script, and the calls of the handler.
use Rattle.std.specs.Prelude.{◌≡◌, ℕ, Bool, true, List, ◌++◌, Option, Some, codes, decimal, map}
use Rattle.std.specs.Prelude.{slice_index_or, ⊤}
use Rattle.std.specs.List.{AllPass, enumerate_from}
use Rattle.std.specs.Option.{option_map}
use Rattle.std.specs.Result.{result_ok}
use Rattle.web_request.specs.Body.{is_body}
use Rattle.web_request.specs.Feed.{Feed}
use Rattle.web_request.specs.Pool.{Pool}
use Rattle.web_worker.specs.Exchanges.{FlightView, FlightView.Waiting}
use Rattle.web_worker.specs.Outcomes.{OutcomeView}
use Rattle.web_worker.specs.PlanCalls.{calls_of}
use Rattle.web_worker.specs.PlanOutcomes.{poll_count, outcome_of}
use Rattle.web_worker.specs.PlanPools.{pool_after}
use Rattle.web_worker.specs.ExchangeRules.{Rules}
use Rattle.cli_script.specs.ReasonTexts.{reason_text}
use Rattle.cli_script.specs.Script as script
use Rattle.cli_script.specs.Script.{ScriptView, script_lines, script_view}
use Rattle.cli_script.specs.ScriptedView.{ScriptedExchangeView}
use Rattle.cli_script.specs.declared.script.InvalidScript.{InvalidScript}
use Rattle.cli_print.specs.OutcomeText.{print}
use Rattle.web_request_log.specs.HeaderDescriptions.{newline}
use Rattle.demo_app.specs.declared.layer.DemoLayer.{DemoLayer}
use Rattle.demo_app.specs.declared.app.DemoLocal.{DemoLocal}
use Rattle.demo_app.specs.declared.app.DemoConn.{DemoConn}
use Rattle.demo_app.specs.DemoRequests.{demo_request}
use Rattle.demo_app.specs.ServiceFunctions.{ArgumentFunctions, ArgumentsMeet}
use Rattle.demo_app.specs.ServiceFunctions.{HandlerFunctions, HandlerMeets, delay_of, reply_of}
use Rattle.web_cli.specs.DemoExchanges.{demo_exchange, demo_pool}
use Rattle.web_cli.specs.declared.script_answer.ScriptAnswer.{ScriptAnswer}
use Rattle.web_cli.specs.declared.script_answer.ScriptAnswer.TheVariants as answer

module _ {V : Type 0} (a : ArgumentFunctions V) (h : HandlerFunctions V) where
  -- the outcome of the exchange of this number: its reply, where the plan names it more often than
  -- its delay
  abbrev pub outcome_in : List ℕ → ℕ × ScriptedExchangeView → OutcomeView
  outcome_in plan (k, e) = outcome_of (delay_of a h e) (reply_of a h e) (poll_count plan k)

  abbrev pub script_outcomes : ScriptView → List OutcomeView
  script_outcomes s = map (outcome_in s.plan) (enumerate_from 0 s.exchanges)

  -- the delay of the exchange of this number
  abbrev pub delay_in : List ScriptedExchangeView → ℕ → ℕ
  delay_in es k = slice_index_or (map (delay_of a h) es) k 0

  -- the pool of this capacity after the script's plan
  abbrev pub script_pool : ℕ → ScriptView → Pool DemoLayer
  script_pool capacity s =
      pool_after (delay_in s.exchanges) (demo_pool capacity) s.exchanges s.plan

  -- the outcomes, the records that the pool then keeps, and how many it made
  unfoldable pub replies_to : ℕ → ScriptView → List ℕ
  replies_to capacity s =
      let pool = script_pool capacity s in print (script_outcomes s) pool.serials pool.made

-- the delay of an exchange's arguments, and their value where they are not refused
abbrev pub arguments_of : {V : Type 0} → ArgumentFunctions V → ScriptedExchangeView → ℕ × Option V
arguments_of a e = (a.delay (demo_request e) e.marks, result_ok (a.result (demo_request e) e.marks))

-- the calls of the handler: one for each entry of the plan with which an exchange's arguments come
abbrev pub calls_to : {V : Type 0} → ArgumentFunctions V → ScriptView → List V
calls_to a s = calls_of (arguments_of a) s.exchanges s.plan

-- the first faulty line of the script
abbrev pub first_fault : List ℕ → Option InvalidScript
first_fault bytes = script.first_fault (script_lines bytes)

-- no line of the script is faulty
abbrev pub is_valid_script : List ℕ → Bool
is_valid_script bytes = script.is_valid_script (script_lines bytes)

-- the text of the replies to a valid script, by a worker whose pool has this capacity
abbrev pub replies_text :
    {V : Type 0} → ArgumentFunctions V → HandlerFunctions V → ℕ → List ℕ → List ℕ
replies_text a h capacity bytes = replies_to a h capacity (script_view (script_lines bytes))

-- the calls of the handler for a valid script
abbrev pub script_calls : {V : Type 0} → ArgumentFunctions V → List ℕ → List V
script_calls a bytes = calls_to a (script_view (script_lines bytes))

-- `line N: reason`
abbrev pub fault_text : InvalidScript → List ℕ
fault_text fault =
    codes "line " ++ decimal fault.line ++ codes ": " ++ reason_text fault.reason ++ newline

-- P of what the script says, where the flights wait for its exchanges and this is its plan
abbrev pub FlightsOf : {K : Type 0} → List (FlightView Feed DemoLayer DemoLocal DemoConn K)
    → List ℕ → (ScriptView → Type 0) → Type 0
FlightsOf flights plan P =
    (es : List ScriptedExchangeView) → flights ≡ map (λ e. Waiting (demo_exchange e)) es
    → AllPass (λ e. is_body e.marks) es → P (record { exchanges = es; plan = plan })

-- R: what the extractors, their errors, the handler and its outputs promise
module _ {V E Y : Type 0} (R : Rules DemoLayer DemoLocal DemoConn V E Y) where
  -- for all functions that the arguments and the handler meet, this is the text of the replies
  abbrev pub AreRepliesTo : ℕ → ScriptView → List ℕ → Type 0
  AreRepliesTo capacity script text =
      (a : ArgumentFunctions V) (h : HandlerFunctions V)
      → ArgumentsMeet R.means R.converts a
      → HandlerMeets R.answers R.responds h
      → text ≡ replies_to a h capacity script

  abbrev pub AreReplies : ℕ → List ℕ → List ℕ → Type 0
  AreReplies capacity bytes text = AreRepliesTo capacity (script_view (script_lines bytes)) text

  -- the script was served with these outcomes, by a worker of this capacity that is left with this
  -- pool
  pub record IsServed
      (capacity : ℕ)
      (script : ScriptView)
      (os : List OutcomeView)
      (pool : Pool DemoLayer) : Type 0 where
    pub outcomes : (a : ArgumentFunctions V) (h : HandlerFunctions V)
        → ArgumentsMeet R.means R.converts a
        → HandlerMeets R.answers R.responds h → os ≡ script_outcomes a h script
    pub pool_left : (a : ArgumentFunctions V) (h : HandlerFunctions V)
        → ArgumentsMeet R.means R.converts a
        → HandlerMeets R.answers R.responds h → pool ≡ script_pool a h capacity script

  -- for all functions that the arguments meet, the list of calls, where the handler keeps one, grew
  -- by those for the script
  abbrev pub AppendsCallsTo : Option (List V) → Option (List V) → ScriptView → Type 0
  AppendsCallsTo old new script =
      (a : ArgumentFunctions V) → ArgumentsMeet R.means R.converts a
      → new ≡ option_map (λ calls. calls ++ calls_to a script) old

  abbrev pub AppendsScriptCalls : Option (List V) → Option (List V) → List ℕ → Type 0
  AppendsScriptCalls old new bytes = AppendsCallsTo old new (script_view (script_lines bytes))

-- the text says the first faulty line of the script
abbrev pub IsFaultText : List ℕ → List ℕ → Type 0
IsFaultText script text =
    (fault : InvalidScript) × ((first_fault script ≡ Some fault) × (text ≡ fault_text fault))

-- a valid script has replies, and any other is refused for its first faulty line
abbrev pub IsValid : ScriptAnswer → List ℕ → Type 0
IsValid (answer.Replies text) script = is_valid_script script ≡ true
IsValid (answer.Refused text) script = IsFaultText script text.items

-- P of the text of the replies, where there are some
abbrev pub OnReplies : ScriptAnswer → (List ℕ → Type 0) → Type 0
OnReplies (answer.Replies text) P = P text.items
OnReplies (answer.Refused text) P = ⊤

-- P where the script is refused
abbrev pub OnRefused : ScriptAnswer → Type 0 → Type 0
OnRefused (answer.Replies text) P = ⊤
OnRefused (answer.Refused text) P = P
