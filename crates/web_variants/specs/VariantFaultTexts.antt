-- The texts of faults of variants.
use Rattle.std.specs.Prelude.{ℕ, ◌++◌, List, codes, decimal}
use Rattle.web_variants.specs.declared.page_fault.NoSuchVariant.{NoSuchVariant}
use Rattle.web_variants.specs.declared.stored_variants.VariantFault.{VariantFault}
use Rattle.web_variants.specs.declared.stored_variants.VariantFault.TheVariants as fault

abbrev pub variant_fault_text : VariantFault → List ℕ
variant_fault_text fault.Empty = codes "there are no variants"
variant_fault_text (fault.Star place) =
    codes "the media type at " ++ (decimal place ++ codes " has a star")
variant_fault_text (fault.Value place) =
    codes "no header can have the type, language or coding at " ++ decimal place

abbrev pub no_such_variant_text : NoSuchVariant → List ℕ
no_such_variant_text fault = codes "there is no variant at " ++ decimal fault.place
