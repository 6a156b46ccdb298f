use Rattle.web_decoders.proofs.DecodedBodyLemmas.{form_polled}
use Rattle.web_decoders.proofs.form_body.UrlEncodedPoll.poll.Goals as goal

pub returns-clause-came : goal.returns-clause-came
returns-clause-came g c = rw (← c.self.view_is) (form_polled g.S.Source.feed g.T.ReadPairs.reads_pairs _ _ _ c.poll.ensures.polled)
