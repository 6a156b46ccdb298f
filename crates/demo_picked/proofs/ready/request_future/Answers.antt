use Rattle.std.proofs.Common.{Ok, Err, refl}
use Rattle.demo_picked.specs.ArgumentMeanings.{MeansRequest}
use Rattle.demo_picked.specs.PickedRequests.{picked_request}
use Rattle.demo_picked.specs.Picking.{By, same_fault}
use Rattle.demo_picked.proofs.PickedArgumentsLemmas.{extracts_now, held_now}
use Rattle.demo_picked.proofs.ready.request_future.Goals as goal

pub returns-in-Ok-clause-extracts : goal.returns-in-Ok-clause-extracts
returns-in-Ok-clause-extracts c =
    extracts_now (picked_request c.args.choice) (By same_fault) (MeansRequest c.args.req.now.request) _ _ _ _
    (rw c.new.ensures
    (held_now (picked_request c.args.choice) (By same_fault) c.in_ok-future.future c.value_of.result (Ok c.picked_of.result) c.value_of.ensures
    (rw c.in-Ok.is (c.picked_of.result, c.picked_of.ensures, refl))))
    c.in_ok-future.ensures.extracts

pub returns-in-Err-clause-extracts : goal.returns-in-Err-clause-extracts
returns-in-Err-clause-extracts c =
    extracts_now (picked_request c.args.choice) (By same_fault) (MeansRequest c.args.req.now.request) _ _ _ _
    (rw c.new-in-Err.ensures
    (held_now (picked_request c.args.choice) (By same_fault) c.in_ok-future.future c.value_of.result (Err c.in-Err.e) c.value_of.ensures
    (rw c.in-Err.is (c.in-Err.e, refl, refl))))
    c.in_ok-future.ensures.extracts
