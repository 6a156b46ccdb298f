pub mod DemoFunctionsLemmas
