-- What became of an exchange, with its reply as a plain value.
use Rattle.std.specs.Prelude.{Bool, true, false, List, map, ⊤}
use Rattle.web_request.specs.Feed.{Feed}
use Rattle.web_reply.specs.ResponseBodies.{Plain, box_plain}
use Rattle.web_reply.specs.Replies.{Reply, plain_reply}
use Rattle.web_worker.specs.declared.outcome.Outcome.{Outcome}
use Rattle.web_worker.specs.declared.outcome.Outcome.TheVariants as outcome

pub data OutcomeView : Type 0 where
  Replied : Reply Plain → OutcomeView
  -- the plan names the exchange too seldom
  Unfinished : OutcomeView
  -- an allocation failed
  NoMemory : OutcomeView

-- `feed` says what a source states of itself
abbrev pub outcome_view : {A L D C S : Type 0} → (S → Feed) → Outcome A L D C S → OutcomeView
outcome_view feed (outcome.Reply r) = OutcomeView.Replied (plain_reply (box_plain feed) r)
outcome_view feed outcome.Unfinished = OutcomeView.Unfinished
outcome_view feed outcome.NoMemory = OutcomeView.NoMemory

abbrev pub outcome_views : {A L D C S : Type 0} → (S → Feed) → List (Outcome A L D C S)
    → List OutcomeView
outcome_views feed os = map (λ o. outcome_view feed o) os

abbrev pub is_unfinished : OutcomeView → Bool
is_unfinished (OutcomeView.Replied r) = false
is_unfinished OutcomeView.Unfinished = true
is_unfinished OutcomeView.NoMemory = false

-- it is a reply with P, or an allocation failed
abbrev pub OutcomeMeets : (Reply Plain → Type 0) → OutcomeView → Type 0
OutcomeMeets P (OutcomeView.Replied r) = P r
OutcomeMeets P OutcomeView.Unfinished = ⊥
OutcomeMeets P OutcomeView.NoMemory = ⊤
