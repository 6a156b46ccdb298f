-- The definitions of the examples.
pub mod BookingLayers
pub mod BookingReplies
pub mod Bookings
pub mod Examples
pub mod NameLists
pub mod Relays
pub mod SecondPoll
pub mod Uploads
pub mod Texts
