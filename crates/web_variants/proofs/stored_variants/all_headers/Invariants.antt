use Rattle.std.proofs.Common.{length}
use Rattle.web_variants.proofs.StoredVariantLemmas.{HeadersSoFar}
use Rattle.web_variants.proofs.stored_variants.all_headers.Given as goal

abbrev pub invariant-variants : goal.invariant-variants
invariant-variants l = HeadersSoFar l.variants l.all.items l.rest

abbrev pub decreases-variants : goal.decreases-variants
decreases-variants l = length l.rest
