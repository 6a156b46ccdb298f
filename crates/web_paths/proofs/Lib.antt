pub mod NameLemmas
mod PathLemmas
