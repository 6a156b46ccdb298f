-- Exchanges each of which has one reply after one delay.
use Rattle.std.specs.Prelude.{ℕ, List, [], Option, None, Some, Result, Ok, Err, IsSome}
use Rattle.web_request.specs.declared.source.Mark.{Mark}
use Rattle.web_request.specs.Feed.{Feed}
use Rattle.web_body.specs.Payload.{payload_feed}
use Rattle.web_reply.specs.ResponseBodies.{Plain, whole_plain}
use Rattle.web_reply.specs.Replies.{Fault, Reply, error_reply, plain_reply}
use Rattle.web_worker.specs.Outcomes.{OutcomeView}
use Rattle.web_worker.specs.Exchanges.{ExchangeView}
use Rattle.web_worker.specs.OutcomeFunctions.{IsOutcome}
use Rattle.web_worker.specs.PlanOutcomes.{poll_count, EachFrom}

-- the marks that are stated, and none where they are not
abbrev pub marks_or_none : Option (List Mark) → List Mark
marks_or_none None = []
marks_or_none (Some m) = m

-- the reply to the value, or to the error in its place
abbrev pub reply_or_error : {V : Type 0} → (V → Reply Plain) → Result V Fault → Reply Plain
reply_or_error reply (Ok v) = reply v
reply_or_error reply (Err e) = plain_reply whole_plain (error_reply e)

module _ {S L D C : Type 0} (feed : S → Feed) where
  -- the source of the body states its marks
  abbrev pub StatesMarks : ExchangeView S L D C → Type 0
  StatesMarks x = IsSome (payload_feed feed x.body).marks

  -- Each exchange whose body states its marks has this reply after this delay, at its number of
  -- polls in the plan. A failed allocation is the exception.
  abbrev pub AreAnswered : (ExchangeView S L D C → ℕ) → (ExchangeView S L D C → Reply Plain)
      → List ℕ → List (ExchangeView S L D C) → List OutcomeView → Type 0
  AreAnswered delay reply plan xs os = EachFrom
      (λ k x o. StatesMarks x → IsOutcome (delay x) (reply x) (poll_count plan k) o) 0 xs os
