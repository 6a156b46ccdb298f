pub mod Collections
pub mod MultipartArgument
