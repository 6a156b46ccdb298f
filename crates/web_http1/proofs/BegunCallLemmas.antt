-- Calls of which some begin a reply whose body is then written to its end.
use Rattle.std.proofs.Common.{◌≡◌, ℕ, ◌⊎◌, inl, inr, List, [], ◌∷◌, ◌++◌, None, Some, sym, ap, ◌∙◌, subst, append_assoc, append-nil}
use Rattle.std.proofs.lemmas.List.{append_cancel_left}
use Rattle.web_request.specs.Feed.{Feed}
use Rattle.web_worker.specs.Setting.{Setting}
use Rattle.web_http1.specs.declared.begun.Begun.{Begun}
use Rattle.web_http1.specs.declared.begun.Begun.TheVariants as begun
use Rattle.web_http1.specs.declared.due_body.BodyStage.{BodyStage}
use Rattle.web_http1.specs.declared.due_body.BodyStage.TheVariants as stage
use Rattle.web_http1.specs.declared.due_body.BodyWritten.{BodyWritten}
use Rattle.web_http1.specs.declared.due_body.BodyWritten.TheVariants as written
use Rattle.web_http1.specs.declared.due_body.DueBody.{DueBody}
use Rattle.web_http1.specs.BegunAnswers.{BegunSteps, after_begun}
use Rattle.web_http1.specs.BegunCalls.{AnswersAny, BeginsWhole, CalledOrBegun, GoesWell, SendsAll, SendsBody, Writes}
use Rattle.web_http1.specs.ConnectionCalls.{Call, Called}
use Rattle.web_http1.specs.Connections.{ConnectionView, StepsFrom, StepsTo}
use Rattle.web_http1.specs.ConnectionSteps.{with_piece}
use Rattle.web_http1.specs.DueBodies.{IsToCome, WritesFront, WritesOn, after_body, body_feed}
use Rattle.web_http1.proofs.OneLemmas.{from_none}

module _ {S : Type 0} (feed : S → Feed) where
  -- so much of the text was written, and that is left
  record Written (text given : List ℕ) (new : DueBody S) : Type 0 where
    rest : List ℕ
    parts : text ≡ given ++ rest
    to_come : IsToCome (body_feed feed new) new.stage rest

  front_of : (result : BodyWritten) → GoesWell result → (text : List ℕ) (new : DueBody S) (before behind : List ℕ)
      → WritesOn text (body_feed feed new) new.stage before behind result → WritesFront text (body_feed feed new) new.stage before behind
  front_of written.Piece well text new before behind h = h
  front_of written.Pending well text new before behind h = h
  front_of written.Done well text new before behind h = h
  front_of written.Broken well text new before behind h = absurd well
  front_of written.NoMemory well text new before behind h = absurd well

  all_written : (old : DueBody S) (results : List BodyWritten) (new : DueBody S) (given : List ℕ) → Writes feed old results new given
      → (text : List ℕ) → IsToCome (body_feed feed old) old.stage text → Written text given new
  all_written old [] new given w text come = record {
    rest = text;
    parts = sym (ap (λ (t : List ℕ). t ++ text) w.1);
    to_come = subst (λ (d : DueBody S). IsToCome (body_feed feed d) d.stage text) (sym w.0) come;
  }
  all_written old (result ∷ results) new given w text come =
      let mid = w.0 in
      let first = w.2 in
      let step = w.4 in
      let front = front_of result step.well text mid w.1 (w.1 ++ first) (step.on text come) in
      let given_is : front.given ≡ first = sym (append_cancel_left w.1 first front.given front.written) in
      let on = all_written mid results new w.3 w.5 front.rest front.to_come in
      record {
        rest = on.rest;
        parts = front.parts ∙ ap (λ (t : List ℕ). t ++ front.rest) given_is ∙ ap (λ (t : List ℕ). first ++ t) on.parts
            ∙ sym (append_assoc first w.3 on.rest) ∙ ap (λ (t : List ℕ). t ++ on.rest) (sym w.6);
        to_come = on.to_come;
      }

  same_connection : (old : DueBody S) (results : List BodyWritten) (new : DueBody S) (given : List ℕ) → Writes feed old results new given
      → new.connection ≡ old.connection
  same_connection old [] new given w = ap (λ (d : DueBody S). d.connection) w.0
  same_connection old (result ∷ results) new given w = same_connection w.0 results new w.3 w.5 ∙ w.4.connection

  none_left : (f : Feed) (st : BodyStage) (rest : List ℕ) → st ≡ stage.Sent → IsToCome f st rest → rest ≡ []
  none_left f st rest is come = subst (λ (x : BodyStage). IsToCome f x rest) is come

module _ {S L D C V K : Type 0} (s : Setting S L D C V K) where
  sent_steps : (old : ConnectionView) (due : DueBody S) (before behind : List ℕ) (new : ConnectionView) (given : List ℕ)
      → ((text : List ℕ) → IsToCome (body_feed s.feed due) due.stage text → StepsTo s old due.connection before (behind ++ text))
      → SendsBody s old due before behind new given → (new ≡ due.connection) × StepsFrom s old new before (before ++ given)
  sent_steps old due before behind new given steps b =
      let w = all_written s.feed due b.results b.last b.body b.writes b.text b.to_come in
      let none = none_left s.feed (body_feed s.feed b.last) b.last.stage w.rest b.sent w.to_come in
      let text_is : b.text ≡ b.body = w.parts ∙ ap (λ (t : List ℕ). b.body ++ t) none ∙ append-nil b.body in
      let written : behind ++ b.text ≡ before ++ given =
      ap (λ (t : List ℕ). t ++ b.text) b.head_is ∙ append_assoc before b.head b.text
      ∙ ap (λ (t : List ℕ). before ++ (b.head ++ t)) text_is ∙ ap (λ (t : List ℕ). before ++ t) (sym b.given_is) in
      let new_is : new ≡ due.connection =
      b.new_is ∙ ap (λ (x : BodyStage). after_body x b.last.connection) b.sent ∙ same_connection s.feed due b.results b.last b.body b.writes in (
        new_is,
        subst (λ (c : ConnectionView). StepsFrom s old c before (before ++ given)) (sym new_is)
            (from_none s old.ended _ _ b.unended
            (subst (λ (t : List ℕ). StepsTo s old due.connection before t) written (steps b.text b.to_come))),
      )

  whole_steps : (old new : ConnectionView) (given : List ℕ) → BeginsWhole s old new given → AnswersAny s old new given
  whole_steps old new given b = of b.result b.steps b.limits_are b.sends
    where
      of : (r : Begun S) → BegunSteps s old b.before b.behind r → (after_begun r).limits ≡ old.limits → SendsAll s old r b.before b.behind new given
          → AnswersAny s old new given
      of (begun.Answered c a) steps same sends = record {
        before = b.before;
        steps = subst (λ (d : ConnectionView). StepsFrom s old d b.before (b.before ++ given)) (sym sends.0)
            (subst (λ (t : List ℕ). StepsFrom s old c b.before t) sends.1 steps);
        limits_are = ap (λ (d : ConnectionView). d.limits) sends.0 ∙ same;
      }
      of (begun.Due due) steps same sends =
          let sent = sent_steps old due b.before b.behind new given steps sends in
          record {
            before = b.before;
            steps = sent.1;
            limits_are = ap (λ (d : ConnectionView). d.limits) sent.0 ∙ same;
          }

  pub as_called : (old : ConnectionView) (calls : List Call) (new : ConnectionView) (given : List ℕ) → CalledOrBegun s old calls new given → Called s old calls new given
  as_called old [] new given a = a
  as_called old (Some piece ∷ calls) new given a = as_called (with_piece old piece) calls new given a
  as_called old (None ∷ calls) new given a =
      let step = any a.3 in
      (a.0, step.before, a.1, a.2, step.steps, step.limits_are, as_called a.0 calls new a.2 a.4, a.5)
    where
      any : AnswersAny s old a.0 a.1 ⊎ BeginsWhole s old a.0 a.1 → AnswersAny s old a.0 a.1
      any (inl h) = h
      any (inr h) = whole_steps old a.0 a.1 h
