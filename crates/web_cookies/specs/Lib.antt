pub mod CookieFields
pub mod CookieTexts
pub mod CookieRemoval
pub mod CookieEquality
pub mod Attributes
pub mod CookieReaders
pub mod HeaderCookies
pub mod CookieChecks
