pub mod AnswerReplies
pub mod DemoTexts
pub mod PartsTexts
pub mod StoredDocuments
pub mod StoredVariants
