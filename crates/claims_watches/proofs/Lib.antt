pub mod Translations
pub mod TranslationExact
pub mod Returned
pub mod Sixteen
pub mod NeverStopped
pub mod Implied
