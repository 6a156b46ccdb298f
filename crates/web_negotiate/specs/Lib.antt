pub mod ChoiceLaws
pub mod EncodingChoices
pub mod LanguageChoices
pub mod MediaChoices
pub mod Rankings
pub mod SelectedPositions
