-- Several errors joined into one.
use Rattle.std.specs.Prelude.{List, [], ◌∷◌, flat_map, Option, None, Some}
use Rattle.web_reply.specs.Causes.{cause_status, cause_text}
use Rattle.web_reply.specs.Replies.{Fault, fault_of}
use Rattle.web_reply.specs.declared.errors.cause.Cause.{Cause}
use Rattle.web_reply.specs.declared.errors.cause.Cause.TheVariants.{Several}
use Rattle.web_reply.specs.declared.errors.several.Member.{Member}

-- a cause as one refusal: its status and its text
abbrev pub as_member : Cause → Member
as_member cause = record { status = cause_status cause; text = cause_text cause }

-- the refusals of a cause: those of several, else the one that it is itself
abbrev pub cause_members : Cause → List Member
cause_members (Several members) = members
cause_members cause = as_member cause ∷ []

-- the refusals of all errors, in their order
abbrev pub members : List Fault → List Member
members errors = flat_map (λ e. cause_members e.cause) errors

-- one error as it is; of several, the error of all their refusals, with no reply prepared
abbrev pub join : List Fault → Option Fault
join [] = None
join (e ∷ []) = Some e
join (e ∷ f ∷ es) = Some (fault_of (Several (members (e ∷ f ∷ es))))
