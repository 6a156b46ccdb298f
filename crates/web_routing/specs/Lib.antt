pub mod ImmediateAnswers
pub mod ReplyHeaders
pub mod RequestPaths
pub mod RouteTables
pub mod RoutedPaths
pub mod ServedExchanges
pub mod ServiceRoutes
pub mod StateServices
