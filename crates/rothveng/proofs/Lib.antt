pub mod WholeBodiesLemmas
pub mod PickedWholeLemmas
pub mod MessageRepliesLemmas
pub mod DemoAnswersLemmas
