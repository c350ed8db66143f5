pub mod Word
pub mod Map
