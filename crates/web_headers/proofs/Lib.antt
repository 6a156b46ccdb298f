pub mod PrintedListLemmas
pub mod ValueListLemmas
pub mod ItemTextLemmas
pub mod DateLemmas
