pub mod CutFree
pub mod CutDecoders
pub mod CutReplies
pub mod PoolCalls
pub mod OverLimit
