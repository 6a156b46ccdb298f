pub mod FirstItems
pub mod ForwardedPairs
pub mod Addresses
pub mod Origins
