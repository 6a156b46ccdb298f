-- Where a reader is a function, decoding allows nothing but what that function gives.
use Rattle.std.proofs.Common.{◌≡◌, ℕ, List, Bool, true, false, refl, ◌∙◌, ap, inl, inr}
use Rattle.std.specs.Prelude.{Option, None, Some, Result}
use Rattle.serde_json.specs.Data.{Data}
use Rattle.serde_json.specs.Written.{has_float}
use Rattle.web_texts.specs.Pairs.{Pair}
use Rattle.web_codec.specs.declared.faults.ReadFault.{ReadFault}
use Rattle.web_codec.specs.declared.faults.JsonFault.{JsonFault}
use Rattle.web_codec.specs.Answers.{OrAll}
use Rattle.web_codec.specs.JsonValues.{body_value}
use Rattle.web_codec.specs.DecodedJson.{as_target, DecodesJson, DecodesValue, DecodesData, decoded_data, decoded_value, decoded_json}
use Rattle.web_codec.specs.DecodedForms.{DecodesForm, decoded_form}
use Rattle.web_codec.specs.FormPairs.{form_pairs}

pub only_that : {T : Type 0} (y x : T) → OrAll (λ z. z ≡ y) x → x ≡ y
only_that y x (inl e) = e
only_that y x (inr none) = absurd (none y refl)

module _ {T : Type 0} (read : Data → Result T ReadFault) where
  data_only : (has : Bool) (d : Data) (x : Result T JsonFault) → DecodesData (λ e y. y ≡ read e) has d x → x ≡ decoded_data read has d
  data_only true d x h = h
  data_only false d x h = h.2 ∙ ap as_target (only_that (read d) h.0 h.1)

  value_only : (d : Option Data) (x : Result T JsonFault) → DecodesValue (λ e y. y ≡ read e) d x → x ≡ decoded_value read d
  value_only None x h = h
  value_only (Some d) x h = data_only (has_float d) d x h

  pub json_only : (bytes : List ℕ) (x : Result T JsonFault) → DecodesJson (λ e y. y ≡ read e) bytes x → x ≡ decoded_json read bytes
  json_only bytes x h = value_only (body_value bytes) x h

pub form_only : {T : Type 0} (read : List Pair → Result T ReadFault) (bytes : List ℕ) (x : Result T ReadFault)
    → DecodesForm (λ pairs y. y ≡ read pairs) bytes x → x ≡ decoded_form read bytes
form_only read bytes x h = only_that (read (form_pairs bytes)) x h
