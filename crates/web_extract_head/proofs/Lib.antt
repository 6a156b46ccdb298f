pub mod HeaderArgumentLemmas
pub mod ReadArgumentsLemmas
