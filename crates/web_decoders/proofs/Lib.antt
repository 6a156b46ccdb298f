pub mod DecodedBodyLemmas
pub mod WrittenTypesLemmas
