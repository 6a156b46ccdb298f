-- Optional arguments.
use Rattle.std.specs.Prelude.{◌≡◌, ℕ, List, Option, None, Some, Result, Ok, Err, refl}
use Rattle.web_request.specs.declared.source.Mark.{Mark}
use Rattle.web_body.specs.PollSteps.{GivesSome}
use Rattle.web_extract.specs.Extracts.{AllowsSome}
use Rattle.web_extract.specs.declared.never.Never.{Never}

-- the value, and None for a refusal
abbrev pub as_option : {T E : Type 0} → Result T E → Result (Option T) Never
as_option (Ok x) = Ok (Some x)
as_option (Err e) = Ok None

-- the same delay, and None for a refusal
abbrev pub GivesOption :
    {T E : Type 0} → (ℕ → Result T E → Type 0) → ℕ → Result (Option T) Never → Type 0
GivesOption {T} {E} gives n x = (y : Result T E) × gives n y × (x ≡ as_option y)

pub option_some :
    {T E : Type 0} (gives : ℕ → Result T E → Type 0) → GivesSome gives
    → GivesSome (GivesOption gives)
option_some gives some none = some (λ n y h. none n (as_option y) (y, h, refl))

pub means_option_some :
    {T E : Type 0} (means : List Mark → ℕ → Result T E → Type 0) → AllowsSome means
    → AllowsSome (λ rest n x. GivesOption (means rest) n x)
means_option_some means some none = some (λ rest n y h. none rest n (as_option y) (y, h, refl))
