pub mod Words
pub mod Field
