pub mod Bits
pub mod Filled
pub mod Ones
pub mod Bytes
pub mod WordBits
pub mod Put
