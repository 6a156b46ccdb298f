-- The delay and the reply of a script's exchange, as functions of the exchange alone.
use Rattle.std.specs.Prelude.{◌≡◌, ℕ, ◌+◌, List, Result, Ok, Err}
use Rattle.web_request.specs.declared.source.Mark.{Mark}
use Rattle.web_reply.specs.ResponseBodies.{Plain, whole_plain}
use Rattle.web_reply.specs.Replies.{Fault, Reply, error_reply, plain_reply}
use Rattle.cli_script.specs.ScriptedView.{ScriptedExchangeView}
use Rattle.demo_app.specs.DemoRequests.{DemoRequest, demo_request}

-- For a request and the marks of its body: after how many polls that return `Pending` the
-- arguments come or are refused, and their value or refusal.
pub record ArgumentFunctions (V : Type 0) : Type 0 where
  pub delay : DemoRequest → List Mark → ℕ
  pub result : DemoRequest → List Mark → Result V Fault

-- For the value of the arguments: after how many polls that return `Pending` the handler is done,
-- and its reply to a request.
pub record HandlerFunctions (V : Type 0) : Type 0 where
  pub wait : V → ℕ
  pub reply : V → DemoRequest → Reply Plain

-- the result with its error converted is this one, for each error that it may convert to
abbrev pub ConvertsTo : {V E : Type 0} → (E → Fault → Type 0)
    → Result V E → Result V Fault → Type 0
ConvertsTo converts (Ok v) y = y ≡ Ok v
ConvertsTo converts (Err e) y = (f : Fault) → converts e f → y ≡ Err f

-- the arguments mean this delay and this result alone
abbrev pub ArgumentsMeet : {V E : Type 0}
    → (DemoRequest → List Mark → List Mark → ℕ → Result V E → Type 0)
    → (E → Fault → Type 0) → ArgumentFunctions V → Type 0
ArgumentsMeet {V} {E} means converts a =
    (q : DemoRequest) (m rest : List Mark) (n : ℕ) (x : Result V E)
    → means q m rest n x → (n ≡ a.delay q m) × ConvertsTo converts x (a.result q m)

-- the handler has this wait and this reply alone
abbrev pub HandlerMeets : {V Y : Type 0} → (V → ℕ → Y → Type 0)
    → (Y → DemoRequest → Reply Plain → Type 0) → HandlerFunctions V → Type 0
HandlerMeets {V} {Y} answers responds h =
    (v : V) (n : ℕ) (y : Y) → answers v n y
    → (n ≡ h.wait v) × ((q : DemoRequest) (r : Reply Plain) → responds y q r → r ≡ h.reply v q)

module _ {V : Type 0} (a : ArgumentFunctions V) (h : HandlerFunctions V) where
  -- after n polls the arguments had this result: the delay of the reply, and the reply
  abbrev pub delay_from : ℕ → Result V Fault → ℕ
  delay_from n (Ok v) = n + h.wait v
  delay_from n (Err e) = n

  abbrev pub reply_from : DemoRequest → Result V Fault → Reply Plain
  reply_from q (Ok v) = h.reply v q
  reply_from q (Err e) = plain_reply whole_plain (error_reply e)

  -- the delay and the reply of an exchange
  abbrev pub delay_of : ScriptedExchangeView → ℕ
  delay_of e =
      delay_from (a.delay (demo_request e) e.marks) (a.result (demo_request e) e.marks)

  abbrev pub reply_of : ScriptedExchangeView → Reply Plain
  reply_of e = reply_from (demo_request e) (a.result (demo_request e) e.marks)
