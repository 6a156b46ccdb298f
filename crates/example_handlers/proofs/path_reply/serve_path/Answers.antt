use Rattle.std.proofs.Common.{ap, arith, rules, ◌∙◌}
use Rattle.web_request.specs.Head.{head_path}
use Rattle.web_body.specs.Payload.{payload_feed}
use Rattle.web_reply.specs.Responders.{text_reply}
use Rattle.web_worker.specs.AnsweredExchanges.{marks_or_none}
use Rattle.web_worker.specs.Exchanges.{request_of}
use Rattle.web_worker.proofs.ExchangeLawLemmas.{holds_only, marks_stated, on_ok}
use Rattle.web_testing.specs.TestWorkers.{new_test_pool}
use Rattle.example_handlers.proofs.path_reply.serve_path.Goals as goal

pub returns : goal.returns
returns g c =
    let x = c.args.exchange in
    let pool = new_test_pool c.args.root in
    let m = marks_or_none (payload_feed g.A.Source.Source.feed x.body).marks in
    let reply = text_reply (head_path x.parts.head) in
    let once = c.exchange_law.ensures.worker pool x m 0 reply
    (marks_stated (payload_feed g.A.Source.Source.feed x.body).marks c.requires.told)
    (c.exchange_law.ensures.came (request_of pool x) m 0 0 reply
    (λ rest n a means. rw means.2 (
      means.1,
      λ k y answer.
          let is = holds_only answer.0 (head_path x.parts.head) k y (search rules) answer.2 in
          (is.0, λ r response. response ∙ ap text_reply is.1),
    ))) in
    on_ok c.serve_request.result _ _
    (λ o function. c.reply_law.ensures pool x 0 reply (omega arith) once _ function)
    c.serve_request.ensures.function
