pub mod PromisedRepliesLemmas
pub mod TestRepliesLemmas
pub mod TestRequestsLemmas
pub mod TestWorkersLemmas
