pub mod Counting
pub mod Binomial
pub mod Tried
pub mod Swaps
pub mod AnyOrder
pub mod AllSettings
