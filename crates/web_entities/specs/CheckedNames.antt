-- When the text of a parameter of a disposition reads back as the parameter.
use Rattle.std.specs.Prelude.{◌≡◌, ℕ, List, [], ◌∷◌, Option, Some, Result, Ok, Err, drop}
use Rattle.web_texts.specs.Pieces.{pieces}
use Rattle.web_texts.specs.PieceItems.{all_items}
use Rattle.web_texts.specs.declared.memory.Fail.{Fail}
use Rattle.web_texts.specs.declared.memory.Fail.TheVariants as fail
use Rattle.web_entities.specs.DispositionPlaces.{in_parameters}
use Rattle.web_entities.specs.DispositionTexts.{param_text}
use Rattle.web_entities.specs.Dispositions.{param_of}
use Rattle.web_entities.specs.declared.disposition_param.DispositionParam.{DispositionParam}

-- the parameters that a text has, in which they stand after the semicolon of the type
abbrev pub params_of : List ℕ → Option (List DispositionParam)
params_of text = all_items param_of (pieces in_parameters in_parameters.start text)

-- What the parameter prints, after its semicolon, says this parameter alone.
abbrev pub ReadsBack : DispositionParam → Type 0
ReadsBack p = params_of (drop 1 (param_text p)) ≡ Some (p ∷ [])

-- The parameter comes exactly where it reads back; allocation may always fail.
abbrev pub GivesChecked : {E : Type 0} → DispositionParam → Result DispositionParam (Fail E)
    → Type 0
GivesChecked p (Ok made) = (made ≡ p) × ReadsBack p
GivesChecked p (Err fail.NoMemory) = Unit {0}
GivesChecked p (Err (fail.Of e)) = ¬ ReadsBack p
