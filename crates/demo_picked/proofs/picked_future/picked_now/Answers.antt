use Rattle.std.proofs.Common.{Ok, Err, refl}
use Rattle.demo_picked.proofs.PickedArgumentsLemmas.{held_now}
use Rattle.demo_picked.proofs.picked_future.picked_now.Goals as goal

pub returns-in-Ok-clause-gives : goal.returns-in-Ok-clause-gives
returns-in-Ok-clause-gives g c =
    rw c.new.ensures
    (held_now g.T.IntoPicked.picked g.E.Into.converts c.args.future c.value_of.result (Ok c.into_picked.result) c.value_of.ensures
    (rw c.in-Ok.is (c.into_picked.result, c.into_picked.ensures, refl)))

pub returns-in-Err-clause-gives : goal.returns-in-Err-clause-gives
returns-in-Err-clause-gives g c =
    rw c.new-in-Err.ensures
    (held_now g.T.IntoPicked.picked g.E.Into.converts c.args.future c.value_of.result (Err c.into.result) c.value_of.ensures
    (rw c.in-Err.is (c.into.result, c.into.ensures, refl)))
