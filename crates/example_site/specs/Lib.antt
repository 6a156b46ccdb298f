pub mod Booking
pub mod Item
pub mod Posted
