-- Errors that are joined.
use Rattle.std.proofs.Common.{◌≡◌, List, [], ◌∷◌, refl}
use Rattle.web_reply.specs.JoinedErrors.{as_member, cause_members}
use Rattle.web_reply.specs.declared.errors.cause.Cause.{Cause}
use Rattle.web_reply.specs.declared.errors.cause.Cause.TheVariants.{Several}
use Rattle.web_reply.specs.declared.errors.several.Member.{Member}

pub one_member : (c : Cause) → ((ms : List Member) → c ≡ Several ms → ⊥) → cause_members c ≡ as_member c ∷ []
one_member (Several ms) other = absurd (other ms refl)
one_member c other = refl
