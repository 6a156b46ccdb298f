use Rattle.std.proofs.Common.{◌≡◌, ◌++◌, string_bytes, take}
use Rattle.std.specs.List.{flat_map}
use Rattle.web_folders.specs.Listings.{allowed_line}
use Rattle.web_folders.proofs.listing.push_entries.Given as goal

abbrev pub invariant-loop-entry : goal.invariant-loop-entry
invariant-loop-entry l = string_bytes l.page ≡ string_bytes l.initial.page ++ flat_map (allowed_line l.hidden) (take l.entry-index l.entries)
