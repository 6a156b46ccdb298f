pub mod HeaderArgument
pub mod ReadArguments
pub mod PathArgument
pub mod QueryArgument
