pub mod BoxedFuturesLemmas
pub mod ItemArgumentsLemmas
pub mod PickedArgumentsLemmas
pub mod PickedFunctionsLemmas
pub mod SeenArgumentsLemmas
