use Rattle.std.proofs.Common.{◌∙◌, ap, map}
use Rattle.web_request.specs.Pool.{Pool}
use Rattle.web_worker.specs.Flights.{flight_outcome}
use Rattle.web_worker.specs.HandlerServices.{rules_of}
use Rattle.web_cli.proofs.RepliesTextLemmas.{on_ok, printed_replies}
use Rattle.web_cli.proofs.script_answer.replies.Goals as goal

pub returns-clause-text : goal.returns-clause-text
returns-clause-text g c = λ es are bodies.
    printed_replies (rules_of g.Args.FromRequest.means g.Args.Error.Into.converts
    (g.H.Handler.answers c.args.handler.now) g.H.Output.Responder.responds) c.printed.result c.args.capacity
    (record { exchanges = es; plan = c.args.plan.now })
    (map (λ f. flight_outcome f) c.serve_script.new.flights) c.in_ok-worker.worker
    (c.in_ok-worker.ensures.serves es are bodies) c.serials.result.now c.made.result
    (c.serials.ensures.numbers ∙ ap (λ (p : Pool _). p.serials) c.pool-pool.ensures.pool)
    (c.made.ensures ∙ ap (λ (p : Pool _). p.made) c.pool-pool.ensures.pool) c.printed.ensures

pub returns-clause-calls : goal.returns-clause-calls
returns-clause-calls g c = λ es are bodies.
    on_ok c.printed.result _ (c.in_ok-worker.ensures.calls es are bodies)
