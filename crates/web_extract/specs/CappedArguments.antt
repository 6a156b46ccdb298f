-- Arguments under a limit of their own: the value is wrapped, all else is the argument's.
use Rattle.std.specs.Prelude.{◌≡◌, ℕ, List, Result, Ok, Err, min, refl}
use Rattle.web_request.specs.declared.source.Mark.{Mark}
use Rattle.web_body.specs.PayloadSettings.{PayloadSettings}
use Rattle.web_body.specs.PollSteps.{GivesSome}
use Rattle.web_body.specs.declared.poll.Step.{Step}
use Rattle.web_body.specs.declared.poll.Step.TheVariants.{Pending, Ready, NoMemory}
use Rattle.web_extract.specs.Extracts.{AllowsSome}
use Rattle.web_extract.specs.declared.body.capped_argument.Capped.{Capped}

-- the same settings under the lesser of their limit and this cap
abbrev pub capped_settings : ℕ → PayloadSettings → PayloadSettings
capped_settings cap settings = record settings { limit = min settings.limit cap }

abbrev pub as_capped : {T : Type 0} {cap : ℕ} → T → Capped T cap
as_capped v = record { 0 = v }

-- the same result with its value wrapped
abbrev pub wrapped : {T E : Type 0} {cap : ℕ} → Result T E → Result (Capped T cap) E
wrapped (Ok v) = Ok (as_capped v)
wrapped (Err e) = Err e

module _ {T E : Type 0} {cap : ℕ} where
  -- it comes after the same number of polls, with its value wrapped
  abbrev pub GivesCapped : (ℕ → Result T E → Type 0) → ℕ → Result (Capped T cap) E → Type 0
  GivesCapped gives n x = (y : Result T E) × gives n y × (x ≡ wrapped y)

  abbrev pub WrapsStep : Step (Result T E) → Step (Result (Capped T cap) E) → Type 0
  WrapsStep Pending t = t ≡ Pending
  WrapsStep (Ready y) t = t ≡ Ready (wrapped y)
  WrapsStep NoMemory t = t ≡ NoMemory

  pub capped_some : (gives : ℕ → Result T E → Type 0) → GivesSome gives
      → GivesSome (GivesCapped gives)
  capped_some gives some none = some (λ n y h. none n (wrapped y) (y, h, refl))

  pub means_capped_some : (means : List Mark → ℕ → Result T E → Type 0)
      → AllowsSome means → AllowsSome (λ rest n x. GivesCapped (means rest) n x)
  means_capped_some means some none =
      some (λ rest n y h. none rest n (wrapped y) (y, h, refl))
