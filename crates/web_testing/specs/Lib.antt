pub mod TestErrors
pub mod TestReplies
pub mod TestRequests
pub mod TestWorkers
