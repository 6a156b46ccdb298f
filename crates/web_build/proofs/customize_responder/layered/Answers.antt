use Rattle.web_build.proofs.LayeringLemmas.{gives_layered}
use Rattle.web_build.specs.Customized.{Customized}
use Rattle.web_build.proofs.customize_responder.layered.Goals as goal

pub returns-clause-value : goal.returns-clause-value
returns-clause-value g c =
    let inside = c.customized.inside in
    let customized : Customized g.row.R.Denot =
    record {
      inner = inside.responder;
      status = inside.layers.status;
      overrides = inside.layers.overrides;
      appended = inside.layers.appended;
      error = inside.error;
    } in
    rw (← c.customized.view_is)
    (
    gives_layered g.R.Responder.responds g.R.Body.MessageBody.plain c.with_layers.result customized c.args.req.now.request c.in_ok-own.own
    c.in_ok-own.ensures.responds c.with_layers.ensures.value
    )
