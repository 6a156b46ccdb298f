use Rattle.web_extract.specs.BodyFutures.{body_finished, bytes_gives}
use Rattle.web_extract_body.specs.EitherStates.{state_finished, state_gives}
use Rattle.web_extract_body.proofs.EitherStepsLemmas.{keeps_shifts}
use Rattle.web_extract_body.proofs.either_extract_fut.EitherExtractFutPoll.poll.Goals as goal

pub returns-clause-shift : goal.returns-clause-shift
returns-clause-shift g c =
    let gives = state_gives (λ b k y. bytes_gives g.A.Source.Source.feed b k y)
    g.L.Future.Poll.gives g.R.Future.Poll.gives
    (g.L.FromRequest.means c.args.self.now.request.request)
    (g.R.FromRequest.means c.args.self.now.request.request) in
    keeps_shifts
    (state_finished (λ b. body_finished b) g.L.Future.Poll.is_finished g.R.Future.Poll.is_finished)
    gives (gives c.args.self.now.state) c.replace-state.new.dest c.next_state-next.result
    c.keep.new.place c.keep.result
    (rw c.replace-state.ensures.value at c.next_state-next.ensures) c.keep.ensures
