-- An input and an output as contracts see them.
use Rattle.std.specs.Prelude.{◌<◌, ◌≤◌, ◌+◌, ◌⊎◌, ℕ, Bool, List, Option, min, max}
use Rattle.std.specs.Io.KnownBytes.{Appends, Consumes}

pub record InputState : Type 0 where
  -- how often it failed
  pub faults : ℕ
  -- whether the last result was the end
  pub ended : Bool
  -- the bytes that are left, where they are known
  pub left : Option (List ℕ)
  -- how many bytes it has given
  pub given : ℕ

pub record OutputState : Type 0 where
  -- how often it failed
  pub faults : ℕ
  -- the bytes that were written, where they are known
  pub written : Option (List ℕ)

-- the greatest u64, where a count stops
abbrev pub last_count : ℕ
last_count = 18446744073709551615

-- a count raised by n, as far as it goes
abbrev pub raised_count : ℕ → ℕ → ℕ
raised_count count n = max count (min (count + n) last_count)

-- A count rose by more than n. One at the greatest u64 counts as risen, since it stops there.
abbrev pub RoseBeyond : ℕ → ℕ → ℕ → Type 0
RoseBeyond n old new = (old + n < new) ⊎ (last_count ≤ new)

-- these bytes were read: where the bytes that were left are known, they are these, and then those
-- that are left now
abbrev pub ReadsBytes : List ℕ → InputState → InputState → Type 0
ReadsBytes bytes old new = Consumes old.left new.left bytes

-- these bytes were written: where those written before are known, these follow them
abbrev pub WritesBytes : List ℕ → OutputState → OutputState → Type 0
WritesBytes bytes old new = Appends old.written new.written bytes
