pub mod FirstGreatestLemmas
pub mod MediaLemmas
pub mod PageReplyLemmas
pub mod PrintedHeaderLemmas
pub mod StoredVariantLemmas
pub mod VariantReplyLemmas
