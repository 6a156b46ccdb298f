use Rattle.std.proofs.Common.{subst, sym}
use Rattle.web_extract.specs.BodyFutures.{StringNeedsNoMemory}
use Rattle.web_extract.proofs.BodyFuturesLemmas.{decodes_without}
use Rattle.web_extract.proofs.body.body_futures.StringExtractFutPoll.poll.Goals as goal

pub returns-clause-memory : goal.returns-clause-memory
returns-clause-memory g c =
    λ none. decodes_without _ _ (c.poll.ensures.without_body (subst (λ f. StringNeedsNoMemory g.S.Source.feed f) (sym c.self.view_is) none)) c.decoded_step.ensures
