pub mod GreatestLemmas
pub mod ReferenceLemmas
pub mod RankedLemmas
pub mod RankingLemmas
