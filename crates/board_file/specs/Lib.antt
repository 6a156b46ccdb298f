pub mod FileAnswers
