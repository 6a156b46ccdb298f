pub mod DemoAnswers
