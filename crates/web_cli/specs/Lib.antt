pub mod CommandWords
pub mod DemoExchanges
pub mod LoadTexts
pub mod Run
pub mod ConnectionAnswers
pub mod ScriptAnswers
pub mod StatusCode
pub mod WriteOrFault
