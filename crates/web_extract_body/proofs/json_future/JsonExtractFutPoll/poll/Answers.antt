use Rattle.web_decoders.specs.JsonBodies.{json_gives}
use Rattle.web_extract.specs.Refusals.{json_fault}
use Rattle.web_extract_body.specs.HandledBodies.{KeptErrors}
use Rattle.web_extract_body.specs.JsonArgument.{json_handler, json_of}
use Rattle.web_extract_body.proofs.HandledLemmas.{handled_shift, handled_value}
use Rattle.web_extract_body.proofs.json_future.JsonExtractFutPoll.poll.Goals as goal

pub returns-clause-value : goal.returns-clause-value
returns-clause-value g c =
    rw (← c.self.view_is)
    (handled_value json_of
    (KeptErrors g.A.Layer.OnJson.Refuse.refuses json_fault (json_handler g.A.Layer.Configs.configurations) c.self.inside.request)
    c.poll-step.result c.handle_step.result (json_gives g.A.Source.Source.feed g.T.ReadJson.reads c.self.inside.body)
    c.handle_step.ensures.handles c.poll-step.ensures.value)

pub returns-clause-shift : goal.returns-clause-shift
returns-clause-shift g c =
    rw (← c.self.view_is)
    (handled_shift json_of
    (KeptErrors g.A.Layer.OnJson.Refuse.refuses json_fault (json_handler g.A.Layer.Configs.configurations) c.self.inside.request)
    c.poll-step.result c.handle_step.result (json_gives g.A.Source.Source.feed g.T.ReadJson.reads c.self.inside.body)
    (json_gives g.A.Source.Source.feed g.T.ReadJson.reads c.poll-step.new.self)
    c.handle_step.ensures.handles c.poll-step.ensures.shift)

pub returns-clause-polls : goal.returns-clause-polls
returns-clause-polls g c =
    rw (← c.self.view_is)
    (c.poll-step.result, (c.poll-step.ensures.polled, c.poll-step.ensures.came), c.handle_step.ensures.handles)
