-- What a reader makes of a form.
use Rattle.std.specs.Prelude.{ℕ, List, Result}
use Rattle.web_texts.specs.Pairs.{Pair}
use Rattle.web_codec.specs.declared.faults.ReadFault.{ReadFault}
use Rattle.web_codec.specs.Answers.{OrAll}
use Rattle.web_codec.specs.FormPairs.{form_pairs}

-- what a reader may make of pairs
abbrev pub PairReader : Type 0 → Type 1
PairReader T = List Pair → Result T ReadFault → Type 0

-- what decoding a form may give
abbrev pub DecodesForm : {T : Type 0} → PairReader T → List ℕ → Result T ReadFault → Type 0
DecodesForm reads bytes x = OrAll (reads (form_pairs bytes)) x

-- what it gives where the reader is a function
abbrev pub decoded_form : {T : Type 0}
    → (List Pair → Result T ReadFault) → List ℕ → Result T ReadFault
decoded_form read bytes = read (form_pairs bytes)
