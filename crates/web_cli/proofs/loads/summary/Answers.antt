use Rattle.std.proofs.Common.{◌∙◌, ap, map}
use Rattle.web_request.specs.Pool.{Pool}
use Rattle.web_worker.specs.Flights.{flight_outcome}
use Rattle.web_worker.specs.HandlerServices.{rules_of}
use Rattle.web_cli.proofs.RepliesTextLemmas.{on_ok, summarized_script}
use Rattle.web_cli.proofs.loads.summary.Goals as goal

pub returns-clause-text : goal.returns-clause-text
returns-clause-text g c = λ es are bodies.
    summarized_script (rules_of g.Args.FromRequest.means g.Args.Error.Into.converts
    (g.H.Handler.answers c.args.handler.now) g.H.Output.Responder.responds) c.summarized.result
    (record { exchanges = es; plan = c.args.plan.now })
    (map (λ f. flight_outcome f) c.serve_script.new.flights) c.in_ok-worker.worker
    (c.in_ok-worker.ensures.serves es are bodies) c.args.script_len c.made.result
    (c.made.ensures ∙ ap (λ (p : Pool _). p.made) c.pool.ensures.pool) c.summarized.ensures

pub returns-clause-calls : goal.returns-clause-calls
returns-clause-calls g c = λ es are bodies.
    on_ok c.summarized.result _ (c.in_ok-worker.ensures.calls es are bodies)
