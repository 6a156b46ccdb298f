-- The functions that the program's handler meets.
use Rattle.demo_picked.specs.declared.picked.Picked.{Picked}
use Rattle.demo_app.specs.ServiceFunctions.{HandlerFunctions}
use Rattle.demo_handler.specs.DemoReplies.{demo_reply, wait_of}

abbrev pub demo_handler : HandlerFunctions Picked
demo_handler = record { wait = wait_of; reply = λ p q. demo_reply p }
