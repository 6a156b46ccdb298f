use Rattle.std.proofs.Common.{sym}
use Rattle.web_request.proofs.NearestLemmas.{found, passed}
use Rattle.web_request.proofs.ReadyLayersLemmas.{ready_last}
use Rattle.web_request.proofs.request.HttpRequest.nearest_value.Goals as goal

pub value_in-requires : goal.value_in-requires
value_in-requires g c = (ready_last g.A.Layer.AppLayer.ready c.self.inside.root _ _ c.in-Some.layer.now c.deref.result.now c.in-Some.ensures.cases.0 c.deref.ensures c.loop-layer.invariant.ready).1

pub returns-in-Some-value_in-clause-value : goal.returns-in-Some-value_in-clause-value
returns-in-Some-value_in-clause-value g c =
    found g.W.Wanted.value _ _ _ c.in-Some.layer.now c.deref.result.now c.in-Some-value_in.value.now _ c.in-Some.ensures.cases.0 c.deref.ensures (sym c.in-Some-value_in.ensures.value) c.loop-layer.invariant.same

pub loop-layer-preserved : goal.loop-layer-preserved
loop-layer-preserved g c =
    record {
      same = passed g.W.Wanted.value _ _ _ c.in-Some.layer.now c.deref.result.now _ c.in-Some.ensures.cases.0 c.deref.ensures (sym c.in_default-value_in.ensures.value) c.loop-layer.invariant.same;
      ready = (ready_last g.A.Layer.AppLayer.ready c.self.inside.root _ _ c.in-Some.layer.now c.deref.result.now c.in-Some.ensures.cases.0 c.deref.ensures c.loop-layer.invariant.ready).0;
    }
