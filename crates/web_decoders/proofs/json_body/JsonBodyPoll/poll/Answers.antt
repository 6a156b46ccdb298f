use Rattle.web_decoders.proofs.DecodedBodyLemmas.{json_polled}
use Rattle.web_decoders.proofs.json_body.JsonBodyPoll.poll.Goals as goal

pub returns-clause-came : goal.returns-clause-came
returns-clause-came g c = rw (← c.self.view_is) (json_polled g.S.Source.feed g.T.ReadJson.reads _ _ _ c.poll.ensures.polled)
