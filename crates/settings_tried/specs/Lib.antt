pub mod Standing
pub mod Settings
pub mod AllSettings
pub mod Binomial
pub mod AnyOrder
pub mod Sums
