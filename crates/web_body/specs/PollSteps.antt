-- The result of one poll.
use Rattle.std.specs.Prelude.{◌≡◌, ℕ, suc, Bool, true, false, ⊤}
use Rattle.web_body.specs.declared.poll.Step.{Step}
use Rattle.web_body.specs.declared.poll.Step.TheVariants.{Pending, Ready, NoMemory}

abbrev pub MatchStep : {T : Type 0} → Step T → Type 0 → (T → Type 0) → Type 0 → Type 0
MatchStep Pending P Q R = P
MatchStep (Ready x) P Q R = Q x
MatchStep NoMemory P Q R = R

abbrev pub IfReady : {T : Type 0} → Step T → (T → Type 0) → Type 0
IfReady s Q = MatchStep s ⊤ Q ⊤

abbrev pub IsPending : {T : Type 0} → Step T → Type 0
IsPending s = MatchStep s ⊤ (λ _. ⊥) ⊥

abbrev pub NeverNoMemory : {T : Type 0} → Step T → Type 0
NeverNoMemory s = MatchStep s ⊤ (λ _. ⊤) ⊥

abbrev pub OnPending : {T : Type 0} → Step T → Type 0 → Type 0
OnPending s P = MatchStep s P (λ _. ⊤) ⊤

-- no allocation failed
abbrev pub UnlessNoMemory : {T : Type 0} → Step T → Type 0 → Type 0
UnlessNoMemory s P = MatchStep s P (λ _. P) ⊤

-- it is finished after Ready and NoMemory, and not after Pending
abbrev pub Ends : {T : Type 0} → Step T → Bool → Type 0
Ends s finished = MatchStep s (finished ≡ false) (λ _. finished ≡ true) (finished ≡ true)

-- after Pending only what was allowed one poll later is allowed
abbrev pub Shifts : {T : Type 0} → Step T → (ℕ → T → Type 0) → (ℕ → T → Type 0) → Type 0
Shifts {T} s old new = MatchStep s ((n : ℕ) (x : T) → new n x → old (suc n) x) (λ _. ⊤) ⊤

-- the number of polls that still return Pending: the relation allows no other
abbrev pub PendingCount : {T : Type 0} → (ℕ → T → Type 0) → ℕ → Type 0
PendingCount {T} gives n = (m : ℕ) (x : T) → gives m x → m ≡ n

-- it is not the case that nothing is allowed
abbrev pub GivesSome : {T : Type 0} → (ℕ → T → Type 0) → Type 0
GivesSome {T} gives = ((n : ℕ) (x : T) → gives n x → ⊥) → ⊥

-- where the number is n + 1, the result is Pending and the number becomes n, or allocation failed
abbrev pub GoesOn : {T : Type 0} → (ℕ → T → Type 0) → (ℕ → T → Type 0) → Step T → ℕ → Type 0
GoesOn old new s n = PendingCount old (suc n) → MatchStep s (PendingCount new n) (λ _. ⊥) ⊤

-- where the number is 0, the result is Ready, or allocation failed
abbrev pub ComesNow : {T : Type 0} → (ℕ → T → Type 0) → Step T → Type 0
ComesNow old s = PendingCount old 0 → MatchStep s ⊥ (λ _. ⊤) ⊤
