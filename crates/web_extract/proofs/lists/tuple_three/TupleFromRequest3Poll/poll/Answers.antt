use Rattle.web_extract.specs.ArgumentLists.{nested3}
use Rattle.web_extract.proofs.lists.tuple_three.TupleFromRequest3Poll.poll.Goals as goal

pub returns-in-Pending-clause-shift : goal.returns-in-Pending-clause-shift
returns-in-Pending-clause-shift g c = λ n x h. c.in-Pending.ensures.shift n (nested3 x) h
