pub mod BodyLines
pub mod HeaderLines
pub mod OutcomeText
pub mod SummaryText
pub mod TextLines
