-- Replies that were prepared, and are given once.
use Rattle.web_reply.specs.declared.errors.prepared.Prepared.{Prepared}
use Rattle.web_reply.specs.declared.errors.prepared.Prepared.TheVariants.{Never, Held, Given}

-- the same state of a reply that is seen by f
abbrev pub prepared_map : {R T : Type 0} → (R → T) → Prepared R → Prepared T
prepared_map f Never = Never
prepared_map f (Held reply) = Held (f reply)
prepared_map f Given = Given

-- the state after the reply was given
abbrev pub once_given : {R : Type 0} → Prepared R → Prepared R
once_given Never = Never
once_given (Held reply) = Given
once_given Given = Given
