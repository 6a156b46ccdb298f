use Rattle.std.proofs.Common.{◌≡◌, ◌++◌, ℕ, List}
use Rattle.cli_load.specs.Drawing.{state_after}
use Rattle.cli_load.specs.ScriptTexts.{exchanges_from}
use Rattle.cli_load.proofs.load_script.put_exchanges.Given as goal

-- so many exchanges are written after the text that was there
pub record HasWritten (old new : List ℕ) (seed state count : ℕ) : Type 0 where
  pub text : new ≡ old ++ exchanges_from seed count
  pub state_is : state ≡ state_after seed count

abbrev pub invariant-loop : goal.invariant-loop
invariant-loop l =
    HasWritten l.fn.out.items l.out.items l.fn.load.seed l.state l.counter
