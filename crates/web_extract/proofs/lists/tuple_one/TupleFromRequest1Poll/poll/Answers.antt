use Rattle.web_extract.proofs.ConvertedFuturesLemmas.{list_shifts, list_value}
use Rattle.web_extract.proofs.lists.tuple_one.TupleFromRequest1Poll.poll.Goals as goal

pub returns-clause-value : goal.returns-clause-value
returns-clause-value g c =
    list_value g.A.Error.Into.converts _ _ (g.A.Future.Poll.gives c.args.self.now.first)
    c.list_step.ensures c.poll.ensures.value

pub returns-clause-shift : goal.returns-clause-shift
returns-clause-shift g c =
    list_shifts g.A.Error.Into.converts _ _
    (g.A.Future.Poll.gives c.args.self.now.first) (g.A.Future.Poll.gives c.poll.new.self)
    c.list_step.ensures c.poll.ensures.shift
