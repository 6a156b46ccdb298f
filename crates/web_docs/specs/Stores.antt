-- Stores of documents, as maps from paths.
use Rattle.std.specs.Prelude.{◌≡◌, List, ◌∷◌, ◌++◌, map}
use Rattle.std.specs.Prelude.{Option, None, Some, Result, Ok, Err, if◌then◌else◌}
use Rattle.std.specs.Cmp.Lexicographic.{slice_cmp}
use Rattle.std.specs.FinMap.{FinMap, contains_key, from_entries, insert}
use Rattle.std.specs.List.{list_any}
use Rattle.std.specs.Ordering.{nat_cmp}
use Rattle.std.specs.Str.{bytes_eq}
use Rattle.web_texts.specs.declared.memory.Fail.{Fail}
use Rattle.web_texts.specs.declared.memory.Fail.TheVariants as fail
use Rattle.web_docs.specs.Documents.{has_field_values}
use Rattle.web_docs.specs.declared.document.Document.{Document}
use Rattle.web_docs.specs.declared.document.StoreFault.{StoreFault}
use Rattle.web_docs.specs.declared.document.StoreFault.TheVariants as fault

abbrev pub Documents : Type 0
Documents = FinMap (slice_cmp nat_cmp) Document

-- each document under its path
abbrev pub store_of : List Document → Documents
store_of documents = from_entries (map (λ d. (d.path, d)) documents)

-- what is wrong with a document after these, if anything is
abbrev pub fault_behind : List Document → Document → Option StoreFault
fault_behind before d =
    if list_any (λ e. bytes_eq d.path e.path) before then Some (fault.DuplicatePath d.path)
    else if has_field_values d then None
    else Some (fault.Value d.path)

-- nothing is wrong with any of them after those before it
abbrev pub HasNoFault : List Document → Type 0
HasNoFault documents = (before : List Document) (d : Document) (after : List Document)
    → documents ≡ before ++ d ∷ after → fault_behind before d ≡ None

-- the fault of the first document that is wrong
pub record IsFirstFault (documents : List Document) (f : StoreFault) : Type 0 where
  pub before : List Document
  pub document : Document
  pub after : List Document
  pub parts : documents ≡ before ++ document ∷ after
  pub sound : HasNoFault before
  pub wrong : fault_behind before document ≡ Some f

-- the store of the documents, or the first fault
abbrev pub MakesStore : List Document → Result Documents (Fail StoreFault) → Type 0
MakesStore documents (Ok store) = (store ≡ store_of documents) × HasNoFault documents
MakesStore documents (Err fail.NoMemory) = Unit {0}
MakesStore documents (Err (fail.Of f)) = IsFirstFault documents f

-- what is wrong with a document beside those of a store
abbrev pub fault_beside : Documents → Document → Option StoreFault
fault_beside store d =
    if contains_key store d.path then Some (fault.DuplicatePath d.path)
    else if has_field_values d then None
    else Some (fault.Value d.path)

-- one document more, or its fault
abbrev pub AddsDocument :
    Documents → Document → Result (Unit {0}) (Fail StoreFault) → Documents → Type 0
AddsDocument old d (Ok done) new = (new ≡ insert old d.path d) × (fault_beside old d ≡ None)
AddsDocument old d (Err fail.NoMemory) new = Unit {0}
AddsDocument old d (Err (fail.Of f)) new = fault_beside old d ≡ Some f
