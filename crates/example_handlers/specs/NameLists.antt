-- A list of names that grows.
use Rattle.std.specs.Prelude.{◌≡◌, ◌⊎◌, ℕ, Bool, true, false, List, [], ◌∷◌, ◌++◌, Result, Ok, Err}
use Rattle.std.specs.Prelude.{codes}
use Rattle.std.specs.Str.{bytes_eq}
use Rattle.web_texts.specs.declared.memory.NoMemory.{NoMemory as Wanting}
use Rattle.web_reply.specs.ResponseBodies.{Plain, whole_plain}
use Rattle.web_reply.specs.Replies.{Fault, Reply, error_reply, plain_reply}
use Rattle.web_reply.specs.Responders.{text_reply}
use Rattle.web_worker.specs.Outcomes.{OutcomeView}
use Rattle.web_worker.specs.Outcomes.{OutcomeView.Replied, OutcomeView.Unfinished}
use Rattle.web_worker.specs.Outcomes.{OutcomeView.NoMemory}

-- the list a with one more name
abbrev pub with_name : List ℕ → List ℕ → List ℕ
with_name a name = a ++ name ++ codes "\n"

-- a POST of this name shows it, with 201; each other request shows the list, with 200
abbrev pub NamesValue : Bool → List ℕ → List ℕ → List ℕ → ℕ → List ℕ → Type 0
NamesValue true a name text status b = (text ≡ name) × (status ≡ 201) × (b ≡ with_name a name)
NamesValue false a name text status b = (text ≡ a) × (status ≡ 200) × (b ≡ a)

-- the same of a result; where an allocation fails, a part of the name may have been added
abbrev pub NamesReply : {T : Type 0} → (T → List ℕ) → List ℕ → List ℕ → List ℕ
    → Result (T × ℕ) Wanting → List ℕ → Type 0
NamesReply bytes a method name (Ok y) b =
    NamesValue (bytes_eq method (codes "POST")) a name (bytes y.0) y.1 b
NamesReply bytes a method name (Err e) b = (part : List ℕ) × (b ≡ a ++ part)

-- a plain text with this status
abbrev pub text_with : ℕ → List ℕ → Reply Plain
text_with status text =
    record (text_reply text) { head = record (text_reply text).head { status = status } }

abbrev pub IsRefusal : Reply Plain → Type 0
IsRefusal r = (f : Fault) × (r ≡ plain_reply whole_plain (error_reply f))

-- these outcomes lead from the list a to the list b: a reply shows the list, or the name that it
-- added, or is a refusal
abbrev pub Listed : List OutcomeView → List ℕ → List ℕ → Type 0
Listed [] a b = b ≡ a
Listed (Replied r ∷ os) a b =
    (IsRefusal r × Listed os a b)
    ⊎ (((r ≡ text_with 200 a) × Listed os a b)
    ⊎ ((name : List ℕ) × (r ≡ text_with 201 name) × Listed os (with_name a name) b))
Listed (Unfinished ∷ os) a b = Listed os a b
Listed (NoMemory ∷ os) a b = Listed os a b ⊎ ((part : List ℕ) × Listed os (a ++ part) b)
