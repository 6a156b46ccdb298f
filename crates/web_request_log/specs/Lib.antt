pub mod SortedNames
pub mod VersionNames
pub mod HeaderDescriptions
pub mod LogEntries
