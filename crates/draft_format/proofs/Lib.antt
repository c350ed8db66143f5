pub mod AsWhens
pub mod WhenWord
pub mod Draft
