-- Counts of events, as of faults.
use Rattle.std.specs.Prelude.{◌≡◌, ◌<◌, ◌⊎◌, ℕ}

-- A count rose. One that stays at the greatest u64 counts as risen, since it cannot rise further.
abbrev pub Rose : ℕ → ℕ → Type 0
Rose old new =
    (old < new) ⊎ ((old ≡ 18446744073709551615) × (new ≡ 18446744073709551615))
