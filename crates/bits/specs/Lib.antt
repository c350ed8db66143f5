pub mod Bits
pub mod Spread
pub mod Put
