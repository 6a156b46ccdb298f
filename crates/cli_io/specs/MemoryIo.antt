-- Inputs and outputs in memory as contracts see them, and the results of their calls.
use Rattle.std.specs.Prelude.{ℕ, ◌+◌, Bool, List, length, nat_eq, min, if◌then◌else◌}
use Rattle.std.specs.List.{list_any}
use Rattle.cli_io.specs.IoState.{InputState, OutputState, last_count}
use Rattle.cli_io.specs.declared.input.ReadAnswer.{ReadAnswer}
use Rattle.cli_io.specs.declared.input.ReadAnswer.TheVariants as read

-- an input in memory: how often it was called, the numbers of the calls that fail, and the most
-- bytes that a call gives
pub record MemoryInput : Type 0 where
  pub state : InputState
  pub calls : ℕ
  pub fails_at : List ℕ
  pub most : ℕ

-- an output in memory: how often it was called, the numbers of the calls that fail, and the most
-- bytes that a call takes
pub record MemoryOutput : Type 0 where
  pub state : OutputState
  pub calls : ℕ
  pub fails_at : List ℕ
  pub most : ℕ

-- the number of the next call after so many
abbrev pub next_call : ℕ → ℕ
next_call calls = min (calls + 1) last_count

-- whether the call with this number is to fail
abbrev pub is_to_fail : List ℕ → ℕ → Bool
is_to_fail fails_at call = list_any (λ number. nat_eq number call) fails_at

-- the result of a read of at most so many bytes, of those that are left
abbrev pub given_of : ℕ → ℕ → ReadAnswer
given_of most left = if nat_eq (min left most) 0 then read.End else read.Bytes (min left most)

-- the result of a read into a buffer of this length
abbrev pub memory_answer : MemoryInput → List ℕ → ℕ → ReadAnswer
memory_answer s left room =
    if is_to_fail s.fails_at (next_call s.calls)
    then read.Failed
    else given_of (min room s.most) (length left)
