use Rattle.example_items.proofs.AnsweredLemmas.{each_answered}
use Rattle.example_items.proofs.serving.items_answered_law.Goals as goal

pub returns : goal.returns
returns g c = λ worker limits bytes m next. each_answered g.B.Source.feed worker m
