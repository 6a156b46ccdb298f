pub mod CountLemmas
pub mod HeaderLinesLemmas
pub mod HexadecimalLemmas
pub mod MappedListsLemmas
pub mod SummaryLemmas
pub mod TextLinesLemmas
