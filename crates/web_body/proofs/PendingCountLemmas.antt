-- The number of polls still to come.
use Rattle.std.proofs.Common.{◌≡◌, ℕ, suc, Bool, false, arith}
use Rattle.web_body.specs.declared.poll.Step.{Step}
use Rattle.web_body.specs.declared.poll.Step.TheVariants.{Pending, Ready, NoMemory}
use Rattle.web_body.specs.PollSteps.{Ends, IfReady, Shifts, GivesSome, GoesOn, ComesNow}

module _ {T : Type 0} (old new : ℕ → T → Type 0) where
  pub goes_on : (s : Step T) (n : ℕ) → IfReady s (old 0) → Shifts s old new → GoesOn old new s n
  goes_on Pending n value shift left = λ m x h. let e = left (suc m) x (shift m x h) in omega (arith, e)
  goes_on (Ready y) n value shift left = let e = left 0 y value in absurd (omega (arith, e))
  goes_on NoMemory n value shift left = tt

  pub comes_now : (s : Step T) (finished : Bool) → (finished ≡ false → GivesSome new) → Ends s finished → Shifts s old new → ComesNow old s
  comes_now Pending finished some ends shift left = some ends (λ m x h. let e = left (suc m) x (shift m x h) in absurd (omega (arith, e)))
  comes_now (Ready y) finished some ends shift left = tt
  comes_now NoMemory finished some ends shift left = tt
