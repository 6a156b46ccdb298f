-- What the program writes: the replies to a script, the summary of a load, and the answers of a
-- connection, by its own arguments and its own handler.
use Rattle.std.specs.Prelude.{◌≡◌, ℕ, List}
use Rattle.web_request.specs.Feed.{Feed}
use Rattle.web_worker.specs.declared.handler_service.Work.{Work}
use Rattle.web_worker.specs.HandlerServices.{handler_setting}
use Rattle.web_worker.specs.Setting.{Setting}
use Rattle.web_http1.specs.Answers.{Answers}
use Rattle.web_http1.specs.declared.ended.Ended.{Ended}
use Rattle.web_cli.specs.ConnectionAnswers.{connection_limits}
use Rattle.web_cli.specs.DemoExchanges.{demo_pool}
use Rattle.web_cli.specs.LoadTexts.{summary_text}
use Rattle.web_cli.specs.ScriptAnswers.{replies_text}
use Rattle.demo_app.specs.declared.app.DemoConn.{DemoConn}
use Rattle.demo_app.specs.declared.app.DemoLocal.{DemoLocal}
use Rattle.demo_app.specs.declared.layer.DemoLayer.{DemoLayer}
use Rattle.demo_content.specs.AnswerReplies.{output_reply}
use Rattle.demo_handler.specs.DemoFunctions.{demo_handler}
use Rattle.demo_handler.specs.DemoReplies.{HandlerAnswers}
use Rattle.demo_picked.specs.PickedArguments.{MeansPicked}
use Rattle.demo_picked.specs.PickedFunctions.{picked_arguments}
use Rattle.demo_picked.specs.declared.picked.Picked.{Picked}

-- this is the text of the replies to the script, by a worker whose pool has this capacity
abbrev pub IsDemoText : ℕ → List ℕ → List ℕ → Type 0
IsDemoText capacity script text = text ≡ replies_text picked_arguments demo_handler capacity script

-- this is the summary of the script, as `replay` serves it
abbrev pub IsDemoSummary : List ℕ → List ℕ → Type 0
IsDemoSummary script text = text ≡ summary_text picked_arguments demo_handler script

-- the promises of the program's arguments and handler, on a worker whose pool has this capacity;
-- what the futures are is no matter
abbrev pub demo_setting : ℕ
    → Setting Feed DemoLayer DemoLocal DemoConn Picked (Work (Unit {0}) (Unit {0}))
demo_setting capacity =
    handler_setting (λ q m rest n x. MeansPicked q m rest n x) (λ e f. f ≡ e)
    (λ p n y. HandlerAnswers p n y) (λ y q r. r ≡ output_reply y) (λ f. f) (λ u n x. ⊥)
    (λ u n x. ⊥) (demo_pool capacity)

-- By a worker whose pool has this capacity, the text is the answers of the bytes of a connection,
-- and nothing else is.
pub record AreDemoAnswers (capacity : ℕ) (bytes text : List ℕ) : Type 0 where
  -- it cannot be that the text is not the answers
  pub answers : ¬ ((end : Ended)
      → ¬ (Answers (demo_setting capacity) connection_limits bytes text end))
  pub only : (given : List ℕ) (end : Ended)
      → Answers (demo_setting capacity) connection_limits bytes given end → text ≡ given
