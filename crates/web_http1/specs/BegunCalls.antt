-- A connection that took pieces and answered, in any order of the calls, of which some begin a
-- reply whose body is then written to its end.
use Rattle.std.specs.Prelude.{◌≡◌, ◌⊎◌, List, [], ◌∷◌, ◌++◌, ℕ, None, Some, ⊤}
use Rattle.web_request.specs.Feed.{Feed}
use Rattle.web_worker.specs.Setting.{Setting}
use Rattle.web_http1.specs.declared.begun.Begun.{Begun}
use Rattle.web_http1.specs.declared.begun.Begun.TheVariants as begun
use Rattle.web_http1.specs.declared.due_body.BodyStage.TheVariants as stage
use Rattle.web_http1.specs.declared.due_body.BodyWritten.{BodyWritten}
use Rattle.web_http1.specs.declared.due_body.BodyWritten.TheVariants as written
use Rattle.web_http1.specs.declared.due_body.DueBody.{DueBody}
use Rattle.web_http1.specs.BegunAnswers.{BegunSteps, after_begun}
use Rattle.web_http1.specs.ConnectionCalls.{Call}
use Rattle.web_http1.specs.Connections.{ConnectionView, StepsFrom}
use Rattle.web_http1.specs.ConnectionSteps.{with_piece}
use Rattle.web_http1.specs.DueBodies.{IsToCome, WritesOn, after_body, body_feed}

-- the body was not given up
abbrev pub GoesWell : BodyWritten → Type 0
GoesWell written.Piece = ⊤
GoesWell written.Pending = ⊤
GoesWell written.Done = ⊤
GoesWell written.Broken = ⊥
GoesWell written.NoMemory = ⊥

module _ {S : Type 0} (feed : S → Feed) where
  -- one call of `write_next`, which did not give the body up
  pub record WritesStep (old new : DueBody S) (before behind : List ℕ) (result : BodyWritten)
      : Type 0 where
    pub well : GoesWell result
    pub connection : new.connection ≡ old.connection
    pub on : (text : List ℕ) → IsToCome (body_feed feed old) old.stage text
        → WritesOn text (body_feed feed new) new.stage before behind result

  -- Calls of `write_next` with these results led from `old` to `new`. `given` was written in all,
  -- whatever stood before it at each of them.
  abbrev pub Writes : DueBody S → List BodyWritten → DueBody S → List ℕ → Type 0
  Writes old [] new given = (new ≡ old) × (given ≡ [])
  Writes old (result ∷ results) new given =
      (mid : DueBody S) × (before : List ℕ) × (first : List ℕ) × (others : List ℕ)
      × WritesStep old mid before (before ++ first) result
      × Writes mid results new others × (given ≡ first ++ others)

module _ {S L D C V K : Type 0} (s : Setting S L D C V K) where
  -- the head of a reply was written, and then its body to its end; `new` is the connection then
  pub record SendsBody (old : ConnectionView) (due : DueBody S) (before behind : List ℕ)
      (new : ConnectionView) (given : List ℕ) : Type 0 where
    pub unended : old.ended ≡ None
    pub head : List ℕ
    pub head_is : behind ≡ before ++ head
    pub text : List ℕ
    pub to_come : IsToCome (body_feed s.feed due) due.stage text
    pub results : List BodyWritten
    pub last : DueBody S
    pub body : List ℕ
    pub writes : Writes s.feed due results last body
    pub sent : last.stage ≡ stage.Sent
    pub new_is : new ≡ after_body last.stage last.connection
    pub given_is : given ≡ head ++ body

  abbrev pub SendsAll : ConnectionView → Begun S → List ℕ → List ℕ → ConnectionView → List ℕ
      → Type 0
  SendsAll old (begun.Answered c a) before behind new given =
      (new ≡ c) × (behind ≡ before ++ given)
  SendsAll old (begun.Due due) before behind new given = SendsBody old due before behind new given

  -- a call of `begin_next` with no settings, and the body that is due then, if one is
  pub record BeginsWhole (old new : ConnectionView) (given : List ℕ) : Type 0 where
    pub before : List ℕ
    pub behind : List ℕ
    pub result : Begun S
    pub steps : BegunSteps s old before behind result
    pub limits_are : (after_begun result).limits ≡ old.limits
    pub sends : SendsAll old result before behind new given

  -- a call of `answer` or `answer_next`
  pub record AnswersAny (old new : ConnectionView) (given : List ℕ) : Type 0 where
    pub before : List ℕ
    pub steps : StepsFrom s old new before (before ++ given)
    pub limits_are : new.limits ≡ old.limits

  -- As `Called`, where a call that answers may be one of `begin_next` too.
  abbrev pub CalledOrBegun : ConnectionView → List Call → ConnectionView → List ℕ → Type 0
  CalledOrBegun old [] new given = (new ≡ old) × (given ≡ [])
  CalledOrBegun old (Some piece ∷ calls) new given =
      CalledOrBegun (with_piece old piece) calls new given
  CalledOrBegun old (None ∷ calls) new given =
      (mid : ConnectionView) × (first : List ℕ) × (others : List ℕ)
      × (AnswersAny old mid first ⊎ BeginsWhole old mid first)
      × CalledOrBegun mid calls new others × (given ≡ first ++ others)
