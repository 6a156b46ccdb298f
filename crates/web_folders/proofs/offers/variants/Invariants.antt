use Rattle.std.proofs.Common.{◌≡◌, map, take}
use Rattle.web_folders.specs.FileCodings.{encoding_of}
use Rattle.web_folders.proofs.offers.variants.Given as goal

abbrev pub invariant-loop-coding : goal.invariant-loop-coding
invariant-loop-coding l = map (λ v. v.coding) l.variants.items ≡ map encoding_of (take l.coding-index l.codings)
