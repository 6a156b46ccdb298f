-- Futures whose values and refusals are converted.
use Rattle.std.specs.Prelude.{◌≡◌, ℕ, List, Result, Ok, Err, refl}
use Rattle.web_request.specs.declared.source.Mark.{Mark}
use Rattle.web_body.specs.PollSteps.{GivesSome, MatchStep}
use Rattle.web_body.specs.declared.poll.Step.{Step}
use Rattle.web_body.specs.declared.poll.Step.TheVariants.{Pending, Ready, NoMemory}
use Rattle.web_extract.specs.Extracts.{AllowsSome}

module _ {T E V F : Type 0} (value : T → V → Type 0) (error : E → F → Type 0) where
  -- the value or the refusal as what it converts to
  abbrev pub ConvertsResult : Result T E → Result V F → Type 0
  ConvertsResult (Ok v) x = (w : V) × value v w × (x ≡ Ok w)
  ConvertsResult (Err e) x = (f : F) × error e f × (x ≡ Err f)

  -- the same number of polls, and the result as what it converts to
  abbrev pub GivesConverted : (ℕ → Result T E → Type 0) → ℕ → Result V F → Type 0
  GivesConverted gives n x = (y : Result T E) × gives n y × ConvertsResult y x

  -- the same step, with its result as what it converts to
  abbrev pub ConvertsStep : Step (Result T E) → Step (Result V F) → Type 0
  ConvertsStep s t =
      MatchStep s (t ≡ Pending)
      (λ y. (x : Result V F) × ConvertsResult y x × (t ≡ Ready x)) (t ≡ NoMemory)

-- each value converts to something
abbrev pub ConvertsSome : {T V : Type 0} → (T → V → Type 0) → Type 0
ConvertsSome {T} {V} converts = (v : T) → (w : V) × converts v w

-- a function converts each value
pub converts_by : {T V : Type 0} (f : T → V) → ConvertsSome (λ v w. w ≡ f v)
converts_by f v = (f v, refl)

-- both values and refusals converted by functions
abbrev pub converted_result : {T E V F : Type 0} → (T → V) → (E → F) → Result T E → Result V F
converted_result value error (Ok v) = Ok (value v)
converted_result value error (Err e) = Err (error e)

module _ {T E V F : Type 0} (value : T → V → Type 0) (error : E → F → Type 0)
    (values : ConvertsSome value) (errors : ConvertsSome error) where
  some_result : (y : Result T E) → (x : Result V F) × ConvertsResult value error y x
  some_result (Ok v) = let w = values v in (Ok w.0, (w.0, w.1, refl))
  some_result (Err e) = let f = errors e in (Err f.0, (f.0, f.1, refl))

  pub converted_some : (gives : ℕ → Result T E → Type 0)
      → GivesSome gives → GivesSome (GivesConverted value error gives)
  converted_some gives some none =
      some (λ n y h. let x = some_result y in none n x.0 (y, h, x.1))

  pub means_converted_some : (means : List Mark → ℕ → Result T E → Type 0)
      → AllowsSome means → AllowsSome (λ rest n x. GivesConverted value error (means rest) n x)
  means_converted_some means some none =
      some (λ rest n y h. let x = some_result y in none rest n x.0 (y, h, x.1))

module _ {T E V F : Type 0} (value : T → V) (error : E → F) where
  -- the same number of polls, and the value or the refusal as these functions convert it
  abbrev pub GivesConvertedBy : (ℕ → Result T E → Type 0) → ℕ → Result V F → Type 0
  GivesConvertedBy gives n x = GivesConverted (λ v w. w ≡ value v) (λ e f. f ≡ error e) gives n x

  pub means_converted_by_some : (means : List Mark → ℕ → Result T E → Type 0)
      → AllowsSome means → AllowsSome (λ rest n x. GivesConvertedBy (means rest) n x)
  means_converted_by_some means some =
      means_converted_some (λ v w. w ≡ value v) (λ e f. f ≡ error e)
      (converts_by value) (converts_by error) means some
