pub mod AttributeLemmas
pub mod ReaderLemmas
pub mod HeaderLemmas
