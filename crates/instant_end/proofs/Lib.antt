pub mod Free
pub mod Reading
pub mod Reduced
pub mod Fates
pub mod Parts
