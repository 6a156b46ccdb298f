pub mod Account
pub mod Counts
pub mod Offsets
pub mod Order
pub mod Payment
pub mod Price
pub mod Search
