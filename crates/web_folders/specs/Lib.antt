pub mod FileCodings
pub mod FileDescriptions
pub mod FileDispositions
pub mod FileMediaTypes
pub mod FileReplies
pub mod FolderReplies
pub mod Listings
pub mod ServedFolders
