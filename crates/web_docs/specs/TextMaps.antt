-- Maps from texts.
use Rattle.std.specs.Prelude.{List, map, string_bytes}
use Rattle.std.specs.Cmp.Lexicographic.{slice_cmp}
use Rattle.std.specs.FinMap.{FinMap, from_entries}
use Rattle.std.specs.Ordering.{nat_cmp}
use Rattle.std.specs.declared.string.String.{String}

-- the map of these entries, by the bytes of the keys
abbrev pub by_text : {X Y : Type 0} → List (String Y × X) → FinMap (slice_cmp nat_cmp) X
by_text entries = from_entries (map (λ entry. (string_bytes entry.0, entry.1)) entries)
