pub mod Circles
pub mod Lowest
