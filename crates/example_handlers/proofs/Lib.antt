-- Lemmas of the handlers.
mod BookingLemmas
pub mod FlightLemmas
mod GreeterLemmas
mod HelloLemmas
mod ListingLemmas
mod RelayLemmas
mod NameListLemmas
