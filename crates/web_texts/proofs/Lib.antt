pub mod LastCutLemmas
pub mod NumberedListLemmas
pub mod PositionLemmas
pub mod SplitLemmas
pub mod DigitsLemmas
pub mod CutLemmas
pub mod EscapeLemmas
pub mod EssenceLemmas
pub mod ParameterLemmas
pub mod PieceLemmas
pub mod TextPartLemmas
pub mod TagLemmas
pub mod TestLemmas
pub mod DecimalLemmas
pub mod HeaderTextLemmas
pub mod KeptMediaLemmas
pub mod WrittenMediaLemmas
mod MethodLemmas
