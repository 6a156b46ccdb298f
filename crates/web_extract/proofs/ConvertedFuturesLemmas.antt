-- Futures whose values and refusals are converted.
use Rattle.std.proofs.Common.{◌≡◌, ℕ, suc, List, subst, refl}
use Rattle.std.specs.Prelude.{Option, None, Some, Result, Ok, Err}
use Rattle.web_request.specs.declared.source.Mark.{Mark}
use Rattle.web_body.specs.PollSteps.{IfReady, Shifts}
use Rattle.web_body.specs.declared.poll.Step.{Step}
use Rattle.web_body.specs.declared.poll.Step.TheVariants.{Pending, Ready, NoMemory}
use Rattle.web_reply.specs.Replies.{Fault}
use Rattle.web_extract.specs.ArgumentLists.{ConvertsRefusal, Joins1}
use Rattle.web_extract.specs.CollectedResults.{One}
use Rattle.web_extract.specs.Extracts.{Extracts}
use Rattle.web_extract.specs.ConvertedFutures.{ConvertsResult, ConvertsStep, GivesConverted}
use Rattle.web_extract.specs.ConvertedFutures.{GivesConvertedBy, converted_result}

module _ {T E V F : Type 0} (value : T → V → Type 0) (error : E → F → Type 0) where
  pub step_value : (s : Step (Result T E)) (t : Step (Result V F))
      (gives : ℕ → Result T E → Type 0)
      → ConvertsStep value error s t → IfReady s (gives 0)
      → IfReady t (λ x. GivesConverted value error gives 0 x)
  step_value Pending t gives e h = rw e tt
  step_value (Ready y) t gives e h = rw e.2 (y, h, e.1)
  step_value NoMemory t gives e h = rw e tt

  pub step_shifts : (s : Step (Result T E)) (t : Step (Result V F))
      (old new : ℕ → Result T E → Type 0)
      → ConvertsStep value error s t → Shifts s old new
      → Shifts t (λ n x. GivesConverted value error old n x)
      (λ n x. GivesConverted value error new n x)
  step_shifts Pending t old new e h = rw e (λ n x g. (g.0, h n g.0 g.1, g.2))
  step_shifts (Ready y) t old new e h = rw e.2 tt
  step_shifts NoMemory t old new e h = rw e tt

  pub extracts_converted : (means : List Mark → List Mark → ℕ → Result T E → Type 0)
      (gives : ℕ → Result T E → Type 0) (old new : Option (List Mark))
      → Extracts means gives old new
      → Extracts (λ m rest n x. GivesConverted value error (means m rest) n x)
      (λ n x. GivesConverted value error gives n x) old new
  extracts_converted means gives None new h = tt
  extracts_converted means gives (Some m) new h = (h.0, h.1, λ n x g. (g.0, h.2 n g.0 g.1, g.2))

-- the step of a list of one value, of the step of its argument
module _ {T E : Type 0} (error : E → Fault → Type 0) where
  abbrev Lists : Step (Result T E) → Step (Result (One T) Fault) → Type 0
  Lists s t = ConvertsStep (λ v w. w ≡ record { 0 = v }) error s t

  pub list_value : (s : Step (Result T E)) (t : Step (Result (One T) Fault))
      (gives : ℕ → Result T E → Type 0)
      → Lists s t → IfReady s (gives 0)
      → IfReady t (λ x. Joins1 (ConvertsRefusal error gives) 0 x)
  list_value Pending t gives e h = rw e tt
  list_value (Ready (Ok v)) t gives e h = rw (e.2, e.1.2, e.1.1) h
  list_value (Ready (Err x)) t gives e h = rw (e.2, e.1.2) (x, h, e.1.1)
  list_value NoMemory t gives e h = rw e tt

  later : (old new : ℕ → Result T E → Type 0)
      → ((n : ℕ) (x : Result T E) → new n x → old (suc n) x)
      → (n : ℕ) (x : Result (One T) Fault) → Joins1 (ConvertsRefusal error new) n x
      → Joins1 (ConvertsRefusal error old) (suc n) x
  later old new h n (Ok v) g = h n (Ok v.0) g
  later old new h n (Err x) g = (g.0, h n (Err g.0) g.1, g.2)

  pub list_shifts : (s : Step (Result T E)) (t : Step (Result (One T) Fault))
      (old new : ℕ → Result T E → Type 0)
      → Lists s t → Shifts s old new
      → Shifts t (λ n x. Joins1 (ConvertsRefusal error old) n x)
      (λ n x. Joins1 (ConvertsRefusal error new) n x)
  list_shifts Pending t old new e h = rw e (later old new h)
  list_shifts (Ready y) t old new e h = rw e.2 tt
  list_shifts NoMemory t old new e h = rw e tt

-- no other number of polls and no other result may come together
abbrev pub GivesOnly : {X : Type 0} → (ℕ → X → Type 0) → ℕ → X → Type 0
GivesOnly {X} gives delay result = (n : ℕ) (x : X) → gives n x → (n ≡ delay) × (x ≡ result)

module _ {T E V F : Type 0} (value : T → V) (error : E → F) where
  converts_only : (y : Result T E) (x : Result V F)
      → ConvertsResult (λ v w. w ≡ value v) (λ e f. f ≡ error e) y x
      → x ≡ converted_result value error y
  converts_only (Ok v) x h = rw (h.2, h.1) refl
  converts_only (Err e) x h = rw (h.2, h.1) refl

  -- where a single result may come, a single one may come of its conversion by functions
  pub converted_only : (gives : ℕ → Result T E → Type 0) (delay : ℕ) (result : Result T E)
      → GivesOnly gives delay result
      → GivesOnly (λ n x. GivesConvertedBy value error gives n x)
      delay (converted_result value error result)
  converted_only gives delay result only n x h =
      let once = only n h.0 h.1 in
      let is = converts_only h.0 x h.2 in
      (once.0, subst (λ (y : Result T E). x ≡ converted_result value error y) once.1 is)
