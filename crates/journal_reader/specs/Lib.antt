pub mod Reading
pub mod Through
