pub mod AddressLemmas
pub mod ForwardedLemmas
