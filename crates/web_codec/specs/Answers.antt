-- What a call returns that may also lack memory, where several results may be allowed.
use Rattle.std.specs.Prelude.{◌≡◌, ◌⊎◌, Option, None, Some, Result, Ok, Err, ⊤}
use Rattle.std.proofs.Common.{inl, inr}
use Rattle.web_texts.specs.declared.memory.Fail.{Fail}
use Rattle.web_texts.specs.declared.memory.Fail.TheVariants as fail

-- this refusal; only allocation may fail besides
abbrev pub IsFault : {E : Type 0} → E → Fail E → Type 0
IsFault e fail.NoMemory = ⊤
IsFault e (fail.Of f) = f ≡ e

-- the result, seen by a view, is allowed; only allocation may fail besides
abbrev pub AnswersBy : {X T E : Type 0}
    → (X → T) → (Result T E → Type 0) → Result X (Fail E) → Type 0
AnswersBy view allowed (Ok x) = allowed (Ok (view x))
AnswersBy view allowed (Err fail.NoMemory) = ⊤
AnswersBy view allowed (Err (fail.Of e)) = allowed (Err e)

abbrev pub Answers : {T E : Type 0} → (Result T E → Type 0) → Result T (Fail E) → Type 0
Answers allowed x = AnswersBy (λ y. y) allowed x

-- what is allowed; where nothing is, all counts as allowed
abbrev pub OrAll : {T : Type 0} → (T → Type 0) → T → Type 0
OrAll {T} allowed x = allowed x ⊎ ((y : T) → allowed y → ⊥)

-- It is not the case that nothing is allowed.
pub or_all_some : {T : Type 0} (allowed : T → Type 0) → T
    → ((x : T) → OrAll allowed x → ⊥) → ⊥
or_all_some allowed x none = none x (inr (λ y p. none y (inl p)))

-- tests in order: this refusal where there is nothing, otherwise what follows from it
abbrev pub or_refuse : {A T E : Type 0} → E → Option A → (A → Result T E) → Result T E
or_refuse e None after = Err e
or_refuse e (Some a) after = after a

-- the refusal, otherwise what follows from the value
abbrev pub and_then : {A T E : Type 0} → Result A E → (A → Result T E) → Result T E
and_then (Ok a) after = after a
and_then (Err e) after = Err e
