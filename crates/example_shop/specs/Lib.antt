pub mod Item
pub mod ItemReplies
pub mod Order
pub mod Price
