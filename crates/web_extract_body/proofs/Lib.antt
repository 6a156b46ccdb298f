pub mod EitherLawLemmas
pub mod EitherStepsLemmas
pub mod FormArgumentLemmas
pub mod HandledLemmas
pub mod JsonArgumentLemmas
pub mod ValueRepliesLemmas
pub mod TypeFunctionsLemmas
