pub mod PoolLemmas
pub mod MessageFieldsLemmas
pub mod NearestLemmas
pub mod ReadyLayersLemmas
pub mod ReadingLemmas
pub mod SharedLemmas
