-- The first and the last position of a representation that a byte range selects.
use Rattle.std.specs.Prelude.{ℕ, ◌-◌, ◌&&◌, nat_le, nat_lt, Option, None, Some}
use Rattle.std.specs.Prelude.{if◌then◌else◌}
use Rattle.web_entities.specs.declared.ranges.ByteRangeSpec.{ByteRangeSpec}
use Rattle.web_entities.specs.declared.ranges.ByteRangeSpec.TheVariants as spec

-- Of n positions, or nothing where the range selects none of them.
abbrev pub selected_ends : ByteRangeSpec → ℕ → Option (ℕ × ℕ)
selected_ends (spec.FromTo a b) n =
    if nat_le a b && nat_lt a n then Some (a, if nat_lt b n then b else n - 1) else None
selected_ends (spec.From a) n = if nat_lt a n then Some (a, n - 1) else None
selected_ends (spec.Last k) n =
    if nat_lt 0 k && nat_lt 0 n then Some (n - k, n - 1) else None
