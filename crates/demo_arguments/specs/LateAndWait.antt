-- The arguments `Late` and `Wait`, which the parameters of a path decide.
use Rattle.std.specs.Prelude.{◌≡◌, ℕ, List, Option, None, Some, Result, Ok, Err, codes, refl}
use Rattle.std.specs.Prelude.{if◌then◌else◌, nat_le, option_and_then, unwrap_or}
use Rattle.std.specs.List.{find}
use Rattle.std.specs.Str.{bytes_eq}
use Rattle.web_texts.specs.Digits.{digits_up_to}
use Rattle.web_texts.specs.Pairs.{Pair}
use Rattle.web_request.specs.declared.source.Mark.{Mark}
use Rattle.web_reply.specs.declared.errors.cause.Cause.TheVariants.{Custom}
use Rattle.web_reply.specs.Replies.{Fault, fault_of}
use Rattle.web_extract.specs.Extracts.{AllowsSome}
use Rattle.web_extract.specs.declared.never.Never.{Never}
use Rattle.demo_arguments.specs.declared.late.Late.{Late}
use Rattle.demo_arguments.specs.declared.wait.Wait.{Wait}

-- the first parameter of this name
abbrev pub first_param : List ℕ → List Pair → Option Pair
first_param name params = find (λ p. bytes_eq p.name name) params

-- its value, if that is digits alone and at most max
abbrev pub number_in : List ℕ → ℕ → List Pair → Option ℕ
number_in name max params =
    option_and_then (λ p. digits_up_to max p.value) (first_param name params)

-- the longest delay that a parameter can ask for
abbrev pub max_delay : ℕ
max_delay = 1000000

-- the parameter `delay`, if it is a number of at most the longest delay, else 0
abbrev pub delay_in : List Pair → ℕ
delay_in params = unwrap_or (number_in (codes "delay") max_delay params) 0

-- the number, if it is not below the least
abbrev pub at_least : ℕ → Option ℕ → Option ℕ
at_least least None = None
at_least least (Some n) = if nat_le least n then Some n else None

-- the status of a refusal: the parameter `refuse`, if it is a number from 400 to 599
abbrev pub refusal_in : List Pair → Option ℕ
refusal_in params = at_least 400 (number_in (codes "refuse") 599 params)

-- the empty value, or a refusal with this status
abbrev pub late_or_refusal : Option ℕ → Result Late Fault
late_or_refusal None = Ok (record {})
late_or_refusal (Some status) = Err (fault_of (Custom status (codes "late")))

abbrev pub late_result : List Pair → Result Late Fault
late_result params = late_or_refusal (refusal_in params)

-- the marks are left, and the result comes after the delay
abbrev pub MeansLate : List Pair → List Mark → List Mark → ℕ → Result Late Fault → Type 0
MeansLate params m rest n x = (rest ≡ m) × (n ≡ delay_in params) × (x ≡ late_result params)

pub late_some : (params : List Pair) (m : List Mark) → AllowsSome (MeansLate params m)
late_some params m none = none m (delay_in params) (late_result params) (refl, refl, refl)

-- the marks are left, and the delay is the value of the first poll
abbrev pub MeansWait : List Pair → List Mark → List Mark → ℕ → Result Wait Never → Type 0
MeansWait params m rest n x = (rest ≡ m) × (n ≡ 0) × (x ≡ Ok (record { 0 = delay_in params }))

pub wait_some : (params : List Pair) (m : List Mark) → AllowsSome (MeansWait params m)
wait_some params m none = none m 0 (Ok (record { 0 = delay_in params })) (refl, refl, refl)
