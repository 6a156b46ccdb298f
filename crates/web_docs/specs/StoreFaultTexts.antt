-- The texts of faults of stores.
use Rattle.std.specs.Prelude.{ℕ, ◌++◌, List, codes}
use Rattle.web_docs.specs.declared.document.StoreFault.{StoreFault}
use Rattle.web_docs.specs.declared.document.StoreFault.TheVariants as fault

abbrev pub store_fault_text : StoreFault → List ℕ
store_fault_text (fault.DuplicatePath path) = codes "more than one document has the path " ++ path
store_fault_text (fault.Value path) =
    codes "no header can have the media type or the tag of " ++ path
