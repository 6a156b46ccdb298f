use Rattle.rothveng.proofs.DemoAnswersLemmas.{some_answers}
use Rattle.rothveng.proofs.MessageRepliesLemmas.{all_replied}
use Rattle.rothveng.proofs.law.demo_answers_law.Goals as goal

pub returns-clause-replied : goal.returns-clause-replied
returns-clause-replied c = all_replied

pub returns-clause-answered : goal.returns-clause-answered
returns-clause-answered c = some_answers
