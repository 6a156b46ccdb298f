-- Where a reader allows everything, decoding allows each value of a body that is JSON without floats.
use Rattle.std.proofs.Common.{◌≡◌, ℕ, List, Bool, true, false, refl, ap, ◌∙◌, inl}
use Rattle.std.specs.Prelude.{Option, None, Some, Result, Ok, Err, ⊤}
use Rattle.serde_json.specs.Data.{Data}
use Rattle.serde_json.specs.Written.{has_float}
use Rattle.web_codec.specs.declared.faults.ReadFault.{ReadFault}
use Rattle.web_codec.specs.declared.faults.JsonFault.{JsonFault}
use Rattle.web_codec.specs.declared.faults.JsonFault.TheVariants.{Syntax}
use Rattle.web_codec.specs.JsonValues.{body_value, value_or_syntax}
use Rattle.web_codec.specs.DecodedJson.{as_target, DecodesJson, DecodesValue, DecodesData}

of_data : {T : Type 0} (y : Result T ReadFault) (has : Bool) (d : Data) → has ≡ false
    → DecodesData (λ e x. ⊤) has d (as_target y)
of_data y true d none = absurd (cc)
of_data y false d none = (y, inl tt, refl)

of_value : {T : Type 0} (y : Result T ReadFault) (o : Option Data) (d : Data)
    → Ok d ≡ value_or_syntax o → has_float d ≡ false → DecodesValue (λ e x. ⊤) o (as_target y)
of_value y None d is none = absurd (cc)
of_value y (Some e) d is none = of_data y (has_float e) e (cc)

pub anything : {T : Type 0} (y : Result T ReadFault) (bytes : List ℕ) (d : Data)
    → Ok d ≡ value_or_syntax (body_value bytes) → has_float d ≡ false
    → DecodesJson (λ e x. ⊤) bytes (as_target y)
anything y bytes d is none = of_value y (body_value bytes) d is none
