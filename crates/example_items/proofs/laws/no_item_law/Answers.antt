use Rattle.web_reply.specs.Responders.{empty_reply}
use Rattle.example_items.proofs.laws.no_item_law.Goals as goal

pub returns : goal.returns
returns g c = λ q m.
    c.exchange_law.ensures.came q m 0 0 (empty_reply 404)
    (λ rest n x means. rw means.2 (
      means.1,
      λ k y answer. (answer.0, λ r response. rw answer.1 at response),
    ))
