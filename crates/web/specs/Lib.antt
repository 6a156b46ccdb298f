pub mod ErrorReplies
