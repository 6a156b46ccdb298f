pub mod BuiltLemmas
pub mod LayeringLemmas
