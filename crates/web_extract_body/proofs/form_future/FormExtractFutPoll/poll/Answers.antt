use Rattle.web_decoders.specs.FormBodies.{form_gives}
use Rattle.web_extract.specs.Refusals.{form_fault}
use Rattle.web_extract_body.specs.HandledBodies.{KeptErrors}
use Rattle.web_extract_body.specs.FormArgument.{form_handler, form_of}
use Rattle.web_extract_body.proofs.HandledLemmas.{handled_shift, handled_value}
use Rattle.web_extract_body.proofs.form_future.FormExtractFutPoll.poll.Goals as goal

pub returns-clause-value : goal.returns-clause-value
returns-clause-value g c =
    rw (← c.self.view_is)
    (handled_value form_of
    (KeptErrors g.A.Layer.OnForm.Refuse.refuses form_fault (form_handler g.A.Layer.Configs.configurations) c.self.inside.request)
    c.poll-step.result c.handle_step.result (form_gives g.A.Source.Source.feed g.T.ReadPairs.reads_pairs c.self.inside.body)
    c.handle_step.ensures.handles c.poll-step.ensures.value)

pub returns-clause-shift : goal.returns-clause-shift
returns-clause-shift g c =
    rw (← c.self.view_is)
    (handled_shift form_of
    (KeptErrors g.A.Layer.OnForm.Refuse.refuses form_fault (form_handler g.A.Layer.Configs.configurations) c.self.inside.request)
    c.poll-step.result c.handle_step.result (form_gives g.A.Source.Source.feed g.T.ReadPairs.reads_pairs c.self.inside.body)
    (form_gives g.A.Source.Source.feed g.T.ReadPairs.reads_pairs c.poll-step.new.self)
    c.handle_step.ensures.handles c.poll-step.ensures.shift)

pub returns-clause-polls : goal.returns-clause-polls
returns-clause-polls g c =
    rw (← c.self.view_is)
    (c.poll-step.result, (c.poll-step.ensures.polled, c.poll-step.ensures.came), c.handle_step.ensures.handles)
