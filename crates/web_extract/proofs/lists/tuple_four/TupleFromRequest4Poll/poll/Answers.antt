use Rattle.web_extract.specs.ArgumentLists.{nested4}
use Rattle.web_extract.proofs.lists.tuple_four.TupleFromRequest4Poll.poll.Goals as goal

pub returns-in-Pending-clause-shift : goal.returns-in-Pending-clause-shift
returns-in-Pending-clause-shift g c = λ n x h. c.in-Pending.ensures.shift n (nested4 x) h
