-- The replies to a script, and the answers of a connection, with the program's own arguments.
use Rattle.std.specs.Prelude.{◌≡◌, ◌++◌, ℕ, List, Option}
use Rattle.std.specs.Option.{option_map}
use Rattle.web_reply.specs.ResponseBodies.{Plain}
use Rattle.web_reply.specs.Replies.{Reply}
use Rattle.demo_app.specs.DemoRequests.{DemoRequest}
use Rattle.demo_app.specs.ServiceFunctions.{HandlerFunctions, HandlerMeets}
use Rattle.demo_picked.specs.declared.picked.Picked.{Picked}
use Rattle.demo_picked.specs.PickedArguments.{MeansPicked}
use Rattle.demo_picked.specs.PickedFunctions.{picked_arguments}
use Rattle.web_cli.specs.ConnectionAnswers.{AreAnswers}
use Rattle.web_cli.specs.LoadTexts.{summary_text}
use Rattle.web_cli.specs.ScriptAnswers.{replies_text, script_calls}

-- for all functions that the handler meets, this is the text of the replies to the script, by a
-- worker whose pool has this capacity
abbrev pub ArePickedReplies : {Y : Type 0} → (Picked → ℕ → Y → Type 0)
    → (Y → DemoRequest → Reply Plain → Type 0) → ℕ → List ℕ → List ℕ → Type 0
ArePickedReplies answers responds capacity script text =
    (h : HandlerFunctions Picked) → HandlerMeets answers responds h
    → text ≡ replies_text picked_arguments h capacity script

-- for all functions that the handler meets, this is the summary of the script
abbrev pub IsPickedSummary : {Y : Type 0} → (Picked → ℕ → Y → Type 0)
    → (Y → DemoRequest → Reply Plain → Type 0) → List ℕ → List ℕ → Type 0
IsPickedSummary answers responds script text =
    (h : HandlerFunctions Picked) → HandlerMeets answers responds h
    → text ≡ summary_text picked_arguments h script

-- the list of calls, where the handler keeps one, grew by those for the script
abbrev pub AppendsPickedCalls : Option (List Picked) → Option (List Picked) → List ℕ → Type 0
AppendsPickedCalls old new script =
    new ≡ option_map (λ calls. calls ++ script_calls picked_arguments script) old

-- where each message of a connection has one reply, the text has the answers of these bytes
abbrev pub ArePickedAnswers : {Y : Type 0} → (Picked → ℕ → Y → Type 0)
    → (Y → DemoRequest → Reply Plain → Type 0) → ℕ → List ℕ → List ℕ → Type 0
ArePickedAnswers answers responds capacity bytes text =
    AreAnswers (λ q m rest n x. MeansPicked q m rest n x) (λ e f. f ≡ e) answers responds capacity
    bytes text
