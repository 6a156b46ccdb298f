use Rattle.std.proofs.Common.{◌≡◌, ◌+◌, ◌-◌, ◌≤◌, List, length, None, Some}
use Rattle.web_request.specs.declared.source.Mark.{Mark}
use Rattle.web_worker.specs.PlanPools.{with_records}
use Rattle.web_worker.specs.Setting.{setting_of}
use Rattle.web_http1.specs.Connections.{WaitsForMore}
use Rattle.web_http1.specs.Serving.{Appends}
use Rattle.web_http1.proofs.ServingLemmas.{SoFar}
use Rattle.web_http1.proofs.serving.serve_connection_with.Given as goal

abbrev pub invariant-turns : goal.invariant-turns
invariant-turns g l = record {
  ready : g.S.Service.ready l.service;
  same_promises : g.S.Service.same_promises l.fn.service l.service;
  unended : l.connection.ended ≡ None;
  limits_are : l.connection.limits ≡ l.fn.limits;
  waits : WaitsForMore l.connection;
  given : (g.I.Source.feed l.fn.source).given ≤ (g.I.Source.feed l.source).given;
  made : l.worker.made + length l.connection.left ≤ l.fn.worker.made + ((g.I.Source.feed l.source).given - (g.I.Source.feed l.fn.source).given);
  kept : l.worker ≡ with_records l.worker.serials l.worker.made l.fn.worker;
  faults : (g.I.Source.feed l.source).faults ≡ (g.I.Source.feed l.fn.source).faults;
  lacked : (g.I.Source.feed l.source).lacked ≡ (g.I.Source.feed l.fn.source).lacked;
  grows : Appends l.fn.out.items l.out.items;
  so_far : (marks : List Mark) → (g.I.Source.feed l.fn.source).marks ≡ Some marks
      → SoFar (setting_of (g.S.Service.completed l.fn.service) (g.S.Service.promise l.fn.service) (g.S.Service.left l.fn.service) g.A.Source.Source.feed l.fn.worker) l.fn.limits marks (g.I.Source.feed l.source) l.connection l.fn.out.items l.out.items;
}

abbrev pub decreases-turns : goal.decreases-turns
decreases-turns g l = (g.I.Source.feed l.source).answers
