pub mod JsonErrors
pub mod StatusNames
