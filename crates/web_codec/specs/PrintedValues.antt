-- The texts of what writers give.
use Rattle.std.specs.Prelude.{◌≡◌, ℕ, List, Bool, true, false, Result, Ok, Err, codes}
use Rattle.serde_json.specs.Data.{Data}
use Rattle.serde_json.specs.Written.{has_float, compact_text}
use Rattle.web_texts.specs.Pairs.{Pair}
use Rattle.web_codec.specs.declared.faults.WriteFault.{WriteFault}
use Rattle.web_codec.specs.FormPairs.{pairs_text}

abbrev pub text_or_float : Bool → Data → Result (List ℕ) WriteFault
text_or_float true d = Err (record { text = codes "float" })
text_or_float false d = Ok (compact_text d)

-- the text of a value that holds no float
abbrev pub printed_json : Result Data WriteFault → Result (List ℕ) WriteFault
printed_json (Ok d) = text_or_float (has_float d) d
printed_json (Err e) = Err e

-- the text of what may be written, or its refusal
abbrev pub PrintsJson : (Result Data WriteFault → Type 0) → Result (List ℕ) WriteFault → Type 0
PrintsJson writes x = (y : Result Data WriteFault) × writes y × (x ≡ printed_json y)

abbrev pub printed_form : Result (List Pair) WriteFault → Result (List ℕ) WriteFault
printed_form (Ok pairs) = Ok (pairs_text pairs)
printed_form (Err e) = Err e

abbrev pub PrintsForm : (Result (List Pair) WriteFault → Type 0)
    → Result (List ℕ) WriteFault → Type 0
PrintsForm writes x = (y : Result (List Pair) WriteFault) × writes y × (x ≡ printed_form y)
