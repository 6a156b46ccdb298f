-- What a poll of a collector means for the collector of the body of a request.
use Rattle.std.proofs.Common.{◌≡◌, ℕ, suc, refl, ◌∙◌, ap, arith}
use Rattle.std.specs.Prelude.{Option, None, Some}
use Rattle.web_request.specs.Reading.{Reading}
use Rattle.web_body.specs.declared.message_body.PayloadError.{PayloadError}
use Rattle.web_body.specs.declared.poll.Step.{Step}
use Rattle.web_body.specs.declared.poll.Step.TheVariants.{Pending, Ready, NoMemory}
use Rattle.web_body.specs.PollSteps.{Shifts}
use Rattle.web_body.specs.Collector.{Read, read_of, Allows}
use Rattle.web_body.specs.MessageBody.{payload_answer, AllowsBody}
use Rattle.web_body.specs.MessageBodyPolls.{payload_step}
use Rattle.web_body.specs.WholePayloads.{answered_step}

-- where every later answer to new is one to old, the same holds of what is answered to a body
pub later_answer : {X : Type 0} (answer : Read → X) (old new : Option Reading)
    → ((n : ℕ) (x : Read) → Allows read_of new n x → Allows read_of old (suc n) x)
    → (n : ℕ) (x : X) → Allows (λ c. answer (read_of c)) new n x → Allows (λ c. answer (read_of c)) old (suc n) x
later_answer answer None new f n x a = tt
later_answer answer (Some r) None f n x a =
    let first = (f 0 (read_of r.content) tt).0 in
    let second = (f 1 (read_of r.content) tt).0 in
    absurd (omega (arith, first, second))
later_answer answer (Some r) (Some q) f n x a =
    let later = f n (read_of q.content) (a.0, refl) in
    (later.0, a.1 ∙ ap answer later.1)

pub shifts_answer : {X : Type 0} (answer : Read → X) (s : Step Read) (old new : Option Reading)
    → Shifts s (Allows read_of old) (Allows read_of new)
    → Shifts (answered_step answer s) (Allows (λ c. answer (read_of c)) old) (Allows (λ c. answer (read_of c)) new)
shifts_answer answer Pending old new shift = later_answer answer old new shift
shifts_answer answer (Ready x) old new shift = tt
shifts_answer answer NoMemory old new shift = tt

pub shifts_result : (s : Step Read) (old new : Option Reading) (e f : Option PayloadError) → e ≡ None → f ≡ None
    → Shifts s (Allows read_of old) (Allows read_of new)
    → Shifts (payload_step s) (AllowsBody e old) (AllowsBody f new)
shifts_result Pending old new e f none same shift = rw (none, same) (later_answer payload_answer old new shift)
shifts_result (Ready x) old new e f none same shift = tt
shifts_result NoMemory old new e f none same shift = tt
