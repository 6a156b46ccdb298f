-- The program's handler meets its functions.
use Rattle.std.proofs.Common.{◌≡◌, ◌∙◌}
use Rattle.demo_app.specs.ServiceFunctions.{HandlerMeets}
use Rattle.demo_handler.specs.DemoFunctions.{demo_handler}
use Rattle.demo_handler.specs.DemoReplies.{HandlerAnswers}
use Rattle.demo_content.specs.AnswerReplies.{output_reply}

pub demo_meets : HandlerMeets (λ p n y. HandlerAnswers p n y) (λ y q r. r ≡ output_reply y) demo_handler
demo_meets v n y answers = (answers.0, λ q r responds. responds ∙ answers.1)
