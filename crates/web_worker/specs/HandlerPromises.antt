-- What a call of a handler promises.
use Rattle.std.specs.Prelude.{◌≡◌, ℕ, List, [], ◌∷◌, ◌++◌, Option, None, Some, Result, Ok, Err}
use Rattle.std.specs.Prelude.{◌⊎◌, Bool, false}
use Rattle.web_texts.specs.declared.memory.NoMemory.{NoMemory}

-- all that `small` allows, `large` allows
abbrev pub Within : {T : Type 0} → (ℕ → T → Type 0) → (ℕ → T → Type 0) → Type 0
Within {T} small large = (n : ℕ) (x : T) → small n x → large n x

-- the handler promises the same as before, for all arguments
pub record SamePromises {V Y : Type 0} (old new : V → ℕ → Y → Type 0) : Type 0 where
  pub kept : (v : V) → Within (new v) (old v)
  pub same : (v : V) → Within (old v) (new v)

-- a list of calls, where there is one, has a successful call and may have one that fails
abbrev pub Grows : {W T : Type 0} → Result W NoMemory → T → Option (List T) → Option (List T)
    → Type 0
Grows result x None new = new ≡ None
Grows (Ok f) x (Some old) new = new ≡ Some (old ++ x ∷ [])
Grows (Err e) x (Some old) new = (new ≡ Some (old ++ x ∷ [])) ⊎ (new ≡ Some old)

-- what a future of the closure may give
abbrev pub FnAnswers : {T W Y : Type 0} → (T → Result W NoMemory → Type 0)
    → (W → ℕ → Y → Type 0) → T → ℕ → Y → Type 0
FnAnswers {T} {W} post gives x n y = (f : W) × post x (Ok f) × gives f n y

-- no future that the closure returns is finished
abbrev pub MakesFresh : {T W : Type 0} → (T → Result W NoMemory → Type 0) → (W → Bool) → Type 0
MakesFresh {T} {W} post finished = (x : T) (f : W) → post x (Ok f) → finished f ≡ false
