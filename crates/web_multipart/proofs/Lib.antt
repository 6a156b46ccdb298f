pub mod CollectionLemmas
pub mod MultipartArgumentLemmas
