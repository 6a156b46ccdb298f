-- The texts of faults.
use Rattle.std.specs.Prelude.{ℕ, List, codes}
use Rattle.web_codec.specs.declared.faults.JsonFault.{JsonFault}
use Rattle.web_codec.specs.declared.faults.JsonFault.TheVariants.{Syntax, Float, Target}

abbrev pub json_fault_text : JsonFault → List ℕ
json_fault_text Syntax = codes "no JSON"
json_fault_text Float = codes "float"
json_fault_text (Target e) = e.text
