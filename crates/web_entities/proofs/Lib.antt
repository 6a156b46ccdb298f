pub mod ContentRangeLemmas
pub mod EntityTagLemmas
pub mod PlainTextLemmas
pub mod QuotedValueLemmas
pub mod RawDispositionLemmas
mod IfRangeLemmas
mod ListedTagsLemmas
mod ByteRangeLemmas
mod CutPlaceLemmas
mod QuoteCountLemmas
mod QuotedPlaceLemmas
mod ParameterPlaceLemmas
