use Rattle.std.proofs.Common.{◌≡◌}
use Rattle.web_worker.specs.Exchanges.{ExchangeView, FlightView.Waiting}
use Rattle.web_worker.specs.Setting.{setting_of}
use Rattle.web_routing.specs.ServedExchanges.{Progress}
use Rattle.web_routing.proofs.serving.poll_up_to.Given as goal

abbrev pub invariant-loop-done : goal.invariant-loop-done
invariant-loop-done g l = record {
  ready : g.S.Service.ready l.service;
  same : g.S.Service.same_promises l.fn.service l.service;
  progress : (x : ExchangeView _ _ _ _) → l.fn.flight ≡ Waiting x
      → Progress (setting_of (g.S.Service.completed l.fn.service)
      (g.S.Service.promise l.fn.service) (g.S.Service.left l.fn.service)
      g.A.Source.Source.feed l.fn.worker) x g.S.Service.states l._done l.flight l.fn.worker
      l.worker l.fn.service l.service;
}
