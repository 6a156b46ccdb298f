pub mod DemoFunctions
pub mod DemoReplies
