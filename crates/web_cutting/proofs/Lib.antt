pub mod CutReadingLemmas
pub mod CutFreeLemmas
pub mod CutWithinLemmas
mod CutValuesLemmas
mod CutRepliesLemmas
mod TakingLemmas
mod CutPartsLemmas
mod PoolCallsLemmas
mod OverLimitLemmas
