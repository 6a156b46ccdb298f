-- The reply of an outcome, with its body read to the end.
use Rattle.std.specs.Prelude.{◌≡◌, ◌<◌, ◌≤◌, ◌+◌, ◌^◌, ℕ, List, [], Option, None, Some, Ok}
use Rattle.std.specs.Prelude.{⊤, length}
use Rattle.web_request.specs.declared.source.Mark.{Mark}
use Rattle.web_request.specs.Body.{piece_bytes}
use Rattle.web_body.specs.PollSteps.{GivesSome}
use Rattle.web_body.specs.MessageBody.{answer_of}
use Rattle.web_body.specs.WholePayloads.{reading_all}
use Rattle.web_reply.specs.ResponseBodies.{Plain}
use Rattle.web_reply.specs.Replies.{Reply, with_body}
use Rattle.web_worker.specs.Outcomes.{OutcomeView}
use Rattle.web_testing.specs.declared.error.TestError.{TestError}
use Rattle.web_testing.specs.declared.error.TestError.TheVariants as error

-- where the marks are stated, these are their bytes, and no fault ends them
abbrev pub HasMarks : Option (List Mark) → List ℕ → Type 0
HasMarks None bytes = ⊤
HasMarks (Some marks) bytes =
    length (piece_bytes marks) < 2 ^ 63 → answer_of ((reading_all marks).content) ≡ Ok bytes

abbrev pub HasBody : Plain → List ℕ → Type 0
HasBody Plain.Empty bytes = bytes ≡ []
HasBody (Plain.Bytes all) bytes = bytes ≡ all
HasBody (Plain.Sized n marks) bytes = HasMarks marks bytes
HasBody (Plain.Stream marks) bytes = HasMarks marks bytes

-- the head of the reply, and its body
abbrev pub HasReply : OutcomeView → Reply (List ℕ) → Type 0
HasReply (OutcomeView.Replied reply) found =
    (found ≡ with_body found.body reply) × HasBody reply.body found.body
HasReply OutcomeView.Unfinished found = ⊥
HasReply OutcomeView.NoMemory found = ⊥

-- how often a body is polled at most
abbrev pub most_polls : ℕ
most_polls = 64

-- a value that may come may do so after this many polls or more, or an allocation failed
abbrev pub StillWaits : {T : Type 0} → (ℕ → T → Type 0) → TestError → Type 0
StillWaits gives error.Body = GivesSome (λ n x. gives (most_polls + n) x)
StillWaits gives error.NoMemory = ⊤
StillWaits gives _ = ⊥

-- where the marks are stated, and a fault does not end them, they stall this often or more
abbrev pub StallsLong : Option (List Mark) → Type 0
StallsLong None = ⊤
StallsLong (Some marks) = length (piece_bytes marks) < 2 ^ 63 → (bytes : List ℕ)
    → answer_of ((reading_all marks).content) ≡ Ok bytes → most_polls ≤ (reading_all marks).delay

-- a payload was not read to its end, or an allocation failed
abbrev pub RefusesBody : Option (List Mark) → TestError → Type 0
RefusesBody marks error.Body = StallsLong marks
RefusesBody marks error.NoMemory = ⊤
RefusesBody marks _ = ⊥

-- a body in memory is never refused
abbrev pub RefusesPlain : Plain → TestError → Type 0
RefusesPlain Plain.Empty e = ⊥
RefusesPlain (Plain.Bytes all) e = ⊥
RefusesPlain (Plain.Sized n marks) e = RefusesBody marks e
RefusesPlain (Plain.Stream marks) e = RefusesBody marks e

abbrev pub RefusesReply : OutcomeView → TestError → Type 0
RefusesReply (OutcomeView.Replied reply) e = RefusesPlain reply.body e
RefusesReply OutcomeView.Unfinished e = e ≡ error.Unfinished
RefusesReply OutcomeView.NoMemory e = e ≡ error.NoMemory
