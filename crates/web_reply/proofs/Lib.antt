pub mod CookieItemLemmas
pub mod HeaderStepLemmas
pub mod ResponseCookieLemmas
mod JoinedErrorsLemmas
pub mod CookieEntryLemmas
