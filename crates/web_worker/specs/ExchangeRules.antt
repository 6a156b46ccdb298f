-- What an exchange may be answered with, and after how many polls that leave it unanswered.
use Rattle.std.specs.Prelude.{◌≡◌, ℕ, ◌+◌, ◌<◌, List, Result, Ok, Err}
use Rattle.web_request.specs.declared.source.Mark.{Mark}
use Rattle.web_request.specs.Request.{Request}
use Rattle.web_reply.specs.ResponseBodies.{Plain}
use Rattle.web_reply.specs.Replies.{Fault, Reply}
use Rattle.web_reply.specs.Responders.{Refuses}

-- What arguments, their errors, the handler and its outputs promise. L, D and C are a layer and
-- the data of a request and of a connection; V and E are the arguments and their error, and Y is
-- the handler's output.
pub record Rules (L D C V E Y : Type 0) : Type 1 where
  pub means : Request L D C → List Mark → List Mark → ℕ → Result V E → Type 0
  pub converts : E → Fault → Type 0
  pub answers : V → ℕ → Y → Type 0
  pub responds : Y → Request L D C → Reply Plain → Type 0

module _ {L D C V E Y : Type 0} (R : Rules L D C V E Y) where
  -- where the arguments come as x after n polls, the reply r may come after d polls
  abbrev pub After : Request L D C → ℕ → Result V E → ℕ → Reply Plain → Type 0
  After q n (Err e) d r = (d ≡ n) × Refuses R.converts e r
  After q n (Ok v) d r = (k : ℕ) × (y : Y) × R.answers v k y × R.responds y q r × (d ≡ n + k)

  -- the reply r may come after d polls
  abbrev pub Replies : Request L D C → List Mark → ℕ → Reply Plain → Type 0
  Replies q m d r =
      (rest : List Mark) × (n : ℕ) × (x : Result V E) × R.means q m rest n x × After q n x d r

  -- where the arguments come as x after n polls, every reply comes before that many polls
  abbrev pub ComesBefore : ℕ → ℕ → Result V E → Type 0
  ComesBefore polls n (Err e) = n < polls
  ComesBefore polls n (Ok v) = (n < polls) × ((k : ℕ) (y : Y) → R.answers v k y → n + k < polls)

  -- every reply comes before that many polls
  abbrev pub RepliesBefore : Request L D C → List Mark → ℕ → Type 0
  RepliesBefore q m polls =
      (rest : List Mark) (n : ℕ) (x : Result V E) → R.means q m rest n x → ComesBefore polls n x
