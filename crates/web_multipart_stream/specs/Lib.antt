pub mod MultipartErrors
pub mod FormBoundaries
pub mod PartSchedules
pub mod ScheduleLaws
pub mod StreamViews
pub mod PartTurns
pub mod PartStreams
