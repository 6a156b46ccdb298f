pub mod FileNames
pub mod PathsBelow
