-- Payloads that are taken or left by what the head says.
use Rattle.std.specs.Prelude.{Bool, if◌then◌else◌}
use Rattle.web_body.specs.declared.payload.Payload.{Payload}
use Rattle.web_body.specs.declared.payload.Payload.TheVariants as payload

-- what is taken
abbrev pub taken_where : {S : Type 0} → Bool → Payload S → Payload S
taken_where is_taken p = if is_taken then p else payload.None

-- what is left
abbrev pub left_where : {S : Type 0} → Bool → Payload S → Payload S
left_where is_taken p = if is_taken then payload.None else p
