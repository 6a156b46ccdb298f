-- Media types as they are kept, and their plainest spelling.
use Rattle.std.specs.Prelude.{◌≡◌, ◌⊎◌, ℕ, true, List, [], ◌∷◌, ◌++◌, Some, ⊤}
use Rattle.web_texts.specs.Pairs.{Pair}
use Rattle.web_texts.specs.Tokens.{is_token}
use Rattle.web_texts.specs.MediaTypes.{of_essence, parameter_of, with_parameters}

-- a name, an equals sign and a value, without quotes
abbrev pub unquoted : Pair → List ℕ
unquoted p = p.name ++ 61 ∷ p.value

-- a parameter that reads as itself, where its value needs no quotes
pub record IsKeptParameter (p : Pair) : Type 0 where
  pub name : is_token p.name ≡ true
  pub reads : is_token p.value ≡ true → parameter_of (unquoted p) ≡ Some p

abbrev pub AreKeptParameters : List Pair → Type 0
AreKeptParameters [] = ⊤
AreKeptParameters (p ∷ more) = IsKeptParameter p × AreKeptParameters more

-- an essence and parameters that read as themselves
pub record IsKept (essence : List ℕ) (params : List Pair) : Type 0 where
  pub reads : with_parameters essence params ≡ Some (of_essence essence params)
  pub each : AreKeptParameters params

-- a parameter after a semicolon and at most one space, without quotes, and then this rest
pub record ParameterThen (p : Pair) (text rest : List ℕ) : Type 0 where
  pub token : is_token p.value ≡ true
  pub parts : (text ≡ 59 ∷ (unquoted p ++ rest)) ⊎ (text ≡ 59 ∷ 32 ∷ (unquoted p ++ rest))

-- the parameters in order, each so, and nothing else
abbrev pub ArePlain : List Pair → List ℕ → Type 0
ArePlain [] text = text ≡ []
ArePlain (p ∷ more) text = (rest : List ℕ) × ParameterThen p text rest × ArePlain more rest
