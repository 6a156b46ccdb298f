pub mod ScheduleLemmas
pub mod TurnLemmas
pub mod StreamLemmas
