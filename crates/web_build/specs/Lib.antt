pub mod Builders
pub mod RedirectReplies
pub mod Customized
