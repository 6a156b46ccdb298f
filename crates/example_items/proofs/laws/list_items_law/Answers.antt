use Rattle.std.proofs.Common.{ap, codes, ◌∙◌}
use Rattle.web_reply.specs.Responders.{text_reply}
use Rattle.example_items.proofs.laws.list_items_law.Goals as goal

pub returns : goal.returns
returns g c = λ q m.
    c.exchange_law.ensures.came q m 0 0 (text_reply (codes "items"))
    (λ rest n x means. rw means.2 (
      means.1,
      λ k y answer. (answer.0, λ r response. response ∙ ap text_reply answer.1),
    ))
