use Rattle.std.proofs.Common.{length}
use Rattle.web_reply.specs.Mappers.{RunsAll}
use Rattle.web_reply.proofs.errors.mapped_error.run_mappers.Given as goal

abbrev pub invariant-loop-mapper : goal.invariant-loop-mapper
invariant-loop-mapper g l =
    (last : _) → RunsAll (λ b. (goal.ResponseMapper-dyn g (b.vtable, b.value)).maps b.value) l.left l.response last
    → RunsAll (λ b. (goal.ResponseMapper-dyn g (b.vtable, b.value)).maps b.value) l.fn.mappers l.fn.response last

abbrev pub decreases-loop-mapper : goal.decreases-loop-mapper
decreases-loop-mapper g l = length l.left
