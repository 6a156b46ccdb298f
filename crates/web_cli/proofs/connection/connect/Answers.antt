use Rattle.web_worker.specs.HandlerServices.{handler_setting}
use Rattle.web_cli.specs.ConnectionAnswers.{AreAnswers}
use Rattle.web_cli.proofs.ConnectionLemmas.{all_answered}
use Rattle.web_cli.proofs.connection.connect.Goals as goal

pub returns-clause-answered : goal.returns-clause-answered
returns-clause-answered g c =
    all_answered _ _ c.read_and_answer.result c.read_and_answer.ensures.connects.0 _ _ _ _ c.read_and_answer.ensures.connects.1
