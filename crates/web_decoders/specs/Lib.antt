pub mod Decoding
pub mod FormBodies
pub mod FormHeads
pub mod JsonBodies
pub mod JsonHeads
pub mod LeftPayloads
pub mod TypePredicates
pub mod WrittenTypes
