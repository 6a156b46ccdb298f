-- The definitions of the site.
pub mod ItemReplies
pub mod ItemSites
pub mod ItemConnections
