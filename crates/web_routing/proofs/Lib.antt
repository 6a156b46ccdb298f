pub mod RouteTableLemmas
pub mod RouterLemmas
pub mod ServiceLemmas
pub mod ServiceLawLemmas
pub mod ServedLemmas
pub mod StateLemmas
pub mod Refused
pub mod TableLemmas
