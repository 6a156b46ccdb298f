-- What a reader makes of a JSON body.
use Rattle.std.specs.Prelude.{◌≡◌, ℕ, List, Bool, true, false}
use Rattle.std.specs.Prelude.{Option, None, Some, Result, Ok, Err}
use Rattle.serde_json.specs.Data.{Data}
use Rattle.serde_json.specs.Written.{has_float}
use Rattle.web_codec.specs.declared.faults.ReadFault.{ReadFault}
use Rattle.web_codec.specs.declared.faults.JsonFault.{JsonFault}
use Rattle.web_codec.specs.declared.faults.JsonFault.TheVariants.{Syntax, Float, Target}
use Rattle.web_codec.specs.Answers.{OrAll}
use Rattle.web_codec.specs.JsonValues.{body_value}

-- what a reader may make of a value
abbrev pub JsonReader : Type 0 → Type 1
JsonReader T = Data → Result T ReadFault → Type 0

abbrev pub as_target : {T : Type 0} → Result T ReadFault → Result T JsonFault
as_target (Ok x) = Ok x
as_target (Err e) = Err (Target e)

abbrev pub DecodesData : {T : Type 0}
    → JsonReader T → Bool → Data → Result T JsonFault → Type 0
DecodesData reads true d x = x ≡ Err Float
DecodesData {T} reads false d x =
    (y : Result T ReadFault) × OrAll (reads d) y × (x ≡ as_target y)

abbrev pub DecodesValue : {T : Type 0}
    → JsonReader T → Option Data → Result T JsonFault → Type 0
DecodesValue reads None x = x ≡ Err Syntax
DecodesValue reads (Some d) x = DecodesData reads (has_float d) d x

-- what decoding a body may give: Syntax where it is no JSON, Float where its value holds a float,
-- otherwise what the reader allows
abbrev pub DecodesJson : {T : Type 0} → JsonReader T → List ℕ → Result T JsonFault → Type 0
DecodesJson reads bytes x = DecodesValue reads (body_value bytes) x

abbrev pub decoded_data : {T : Type 0}
    → (Data → Result T ReadFault) → Bool → Data → Result T JsonFault
decoded_data read true d = Err Float
decoded_data read false d = as_target (read d)

abbrev pub decoded_value : {T : Type 0}
    → (Data → Result T ReadFault) → Option Data → Result T JsonFault
decoded_value read None = Err Syntax
decoded_value read (Some d) = decoded_data read (has_float d) d

-- what it gives where the reader is a function
abbrev pub decoded_json : {T : Type 0}
    → (Data → Result T ReadFault) → List ℕ → Result T JsonFault
decoded_json read bytes = decoded_value read (body_value bytes)
