use Rattle.std.proofs.Common.{subst, sym}
use Rattle.web_body.specs.Payload.{payload_feed}
use Rattle.web_http1.specs.DueBodies.{IsToCome}
use Rattle.web_http1.specs.declared.due_body.BodyStage.TheVariants as stage
use Rattle.web_http1.proofs.due_body.DueBody.write_next.Goals as goal

pub returns-in-Due-clause-on : goal.returns-in-Due-clause-on
returns-in-Due-clause-on g c = λ text come.
    let due = rw c.in-Due.is at come in
    c.write_turn-step.ensures.on text
    (subst (λ p. IsToCome (payload_feed g.S.Source.feed p) (stage.Due c.in-Due.framing) text) (sym c.deref_mut.ensures.value) due)
