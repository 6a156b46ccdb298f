use Rattle.example_items.proofs.ConnectionLemmas.{answer_as, answers_as}
use Rattle.example_items.proofs.serving.serve_items.Goals as goal

pub returns-clause-whole : goal.returns-clause-whole
returns-clause-whole g c = λ marks states ends text end answers.
    c.serve_connection.ensures.whole marks states ends text end
    (answers_as _ _ c.args.limits
    (answer_as g.B.Source.feed c.args.worker.now _ _ _ c.in_ok-site.ensures.replies)
    _ text end answers)
