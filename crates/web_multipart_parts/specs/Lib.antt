pub mod Places
pub mod PartHeads
pub mod Parts
pub mod PartReading
pub mod PartMachines
pub mod PartSteps
pub mod PieceParts
pub mod Settled
