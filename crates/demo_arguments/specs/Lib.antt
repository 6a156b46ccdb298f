pub mod Choices
pub mod DelayedValue
pub mod DemoArguments
pub mod LateAndWait
pub mod LinesArgument
