pub mod Acceptance
pub mod AcceptedHeaders
pub mod FirstGreatest
pub mod PageReplies
pub mod PrintedHeaders
pub mod StoredVariants
pub mod VariantFaultTexts
pub mod VariantReplies
