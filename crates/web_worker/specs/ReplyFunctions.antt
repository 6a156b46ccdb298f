-- Handlers and responders that are functions: one value after one number of polls, one reply.
use Rattle.std.specs.Prelude.{◌≡◌, ℕ, Result, Ok, Err}
use Rattle.web_request.specs.Request.{Request}
use Rattle.web_reply.specs.ResponseBodies.{Plain}
use Rattle.web_reply.specs.Replies.{Reply}
use Rattle.web_worker.specs.ExchangeRules.{Rules}

-- this value after this number of polls, and nothing else
abbrev pub AnswersOnly : {Y : Type 0} → (ℕ → Y → Type 0) → ℕ → Y → Type 0
AnswersOnly {Y} gives w y = (k : ℕ) (z : Y) → gives k z → (k ≡ w) × (z ≡ y)

-- this reply, and no other
abbrev pub RespondsOnly : (Reply Plain → Type 0) → Reply Plain → Type 0
RespondsOnly responds r = (s : Reply Plain) → responds s → s ≡ r

-- whatever is answered comes after this number of polls, and its reply is this one
abbrev pub RepliesOnly : {Y : Type 0} → (ℕ → Y → Type 0) → (Y → Reply Plain → Type 0) → ℕ
    → Reply Plain → Type 0
RepliesOnly {Y} gives responds w r =
    (k : ℕ) (y : Y) → gives k y → (k ≡ w) × RespondsOnly (responds y) r

-- arguments that come as a value after d polls, for which the handler takes w polls and its value
-- becomes this reply
abbrev pub LeadsTo : {L D C V E Y : Type 0} → Rules L D C V E Y → Request L D C → ℕ → ℕ
    → Reply Plain → ℕ → Result V E → Type 0
LeadsTo {L} {D} {C} {V} {E} {Y} R q d w r n (Ok v) =
    (n ≡ d) × RepliesOnly (R.answers v) (λ y. R.responds y q) w r
LeadsTo R q d w r n (Err e) = ⊥
