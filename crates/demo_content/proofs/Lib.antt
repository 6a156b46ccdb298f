pub mod JoinedLemmas
pub mod KeptLemmas
pub mod NewlineLemmas
pub mod StoredDocumentsLemmas
