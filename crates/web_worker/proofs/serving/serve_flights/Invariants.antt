use Rattle.std.proofs.Common.{◌≡◌, ◌+◌, ◌≤◌, map, take}
use Rattle.web_worker.specs.PlanPools.{with_records}
use Rattle.web_worker.specs.RecordsMade.{waiting_count}
use Rattle.web_worker.specs.Setting.{setting_of}
use Rattle.web_worker.proofs.PlanCallsLemmas.{CallsAfter}
use Rattle.web_worker.proofs.PlanProgressLemmas.{FlightsAfter}
use Rattle.web_worker.proofs.PoolPlanLemmas.{RunSoFar}
use Rattle.web_worker.proofs.serving.serve_flights.Given as goal

abbrev pub invariant-loop-entry : goal.invariant-loop-entry
invariant-loop-entry g l = record {
  ready : g.S.Service.ready l.service;
  same_promises : g.S.Service.same_promises l.fn.service l.service;
  calls : CallsAfter (setting_of (g.S.Service.completed l.fn.service) (g.S.Service.promise l.fn.service) (g.S.Service.left l.fn.service) g.A.Source.Source.feed l.fn.worker) (map (λ n. g.N.PlanEntry.number n) (take l.entry-index l.plan)) l.fn.flights l.flights (g.S.Service.calls l.fn.service) (g.S.Service.calls l.service);
  flights : FlightsAfter (setting_of (g.S.Service.completed l.fn.service) (g.S.Service.promise l.fn.service) (g.S.Service.left l.fn.service) g.A.Source.Source.feed l.fn.worker) (map (λ n. g.N.PlanEntry.number n) (take l.entry-index l.plan)) l.fn.flights l.flights;
  most : l.worker.made + waiting_count l.flights ≤ l.fn.worker.made + waiting_count l.fn.flights;
  least : l.fn.worker.made ≤ l.worker.made;
  rest : l.worker ≡ with_records l.worker.serials l.worker.made l.fn.worker;
  runs : RunSoFar (setting_of (g.S.Service.completed l.fn.service) (g.S.Service.promise l.fn.service) (g.S.Service.left l.fn.service) g.A.Source.Source.feed l.fn.worker) (map (λ n. g.N.PlanEntry.number n) (take l.entry-index l.plan)) l.fn.flights l.flights l.fn.worker l.worker;
}
