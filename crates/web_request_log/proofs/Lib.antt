pub mod SortedNamesLemmas
