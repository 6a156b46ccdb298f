use Rattle.std.proofs.Common.{◌≡◌, ◌≤◌, ◌+◌, ℕ, List, Option, None, Some}
use Rattle.std.proofs.Common.{Result, Ok, inl, inr, sym, arith}
use Rattle.std.proofs.lemmas.Bool.Decides.{leb_tells}
use Rattle.web_request.specs.declared.source.Mark.{Mark}
use Rattle.web_body.specs.declared.message_body.PayloadError.{PayloadError}
use Rattle.web_body.specs.MessageBody.{answer_of}
use Rattle.web_body.specs.PollSteps.{GivesSome}
use Rattle.web_body.specs.WholePayloads.{MeansAll, reading_all}
use Rattle.web_testing.specs.TestReplies.{HasMarks, RefusesBody, StillWaits, most_polls}
use Rattle.web_testing.specs.declared.error.TestError.{TestError}
use Rattle.web_testing.specs.declared.error.TestError.TheVariants as error

-- what the second may give after n polls, the first may give d polls later
abbrev pub GivesLater : {T : Type 0} → (ℕ → T → Type 0) → (ℕ → T → Type 0) → ℕ → Type 0
GivesLater {T} first second d = (n : ℕ) (x : T) → second n x → first (d + n) x

-- what collectors of all bytes give are the bytes of their marks
pub has_marks : (marks : Option (List Mark)) (gives : ℕ → Result (List ℕ) PayloadError → Type 0)
    → MeansAll answer_of marks gives → (n : ℕ) (bytes : List ℕ) → gives n (Ok bytes)
    → HasMarks marks bytes
has_marks None gives means n bytes given = tt
has_marks (Some marks) gives means n bytes given =
    λ small. sym ((means small n (Ok bytes) given).1)

-- where a future is still open after d polls, something may come then or later
pub still_waits : {T : Type 0} (first second : ℕ → T → Type 0) (d : ℕ)
    → GivesLater first second d → GivesSome second → GivesSome (λ n x. first (d + n) x)
still_waits first second d later some none = some (λ n x given. none n x (later n x given))

at_least : (d : ℕ) → (((n : ℕ) → most_polls + n ≡ d → ⊥) → ⊥) → most_polls ≤ d
at_least d some = elim (leb_tells most_polls d) [
  | inl h ↦ h.1
  | inr h ↦ absurd (some (λ n is. omega (arith, is, h.1)))
]

-- what may come only after that many polls stalls that often
pub refuses_late : (marks : Option (List Mark))
    (gives : ℕ → Result (List ℕ) PayloadError → Type 0)
    → MeansAll answer_of marks gives → (e : TestError) → StillWaits gives e
    → RefusesBody marks e
refuses_late None gives means error.Body waits = tt
refuses_late (Some marks) gives means error.Body waits =
    λ small bytes read. at_least ((reading_all marks).delay)
    (λ none. waits (λ n x given. none n ((means small (most_polls + n) x given).0)))
refuses_late marks gives means error.NoMemory waits = tt
refuses_late marks gives means error.Unfinished waits = absurd waits
refuses_late marks gives means error.Target waits = absurd waits
refuses_late marks gives means (error.Header e) waits = absurd waits
