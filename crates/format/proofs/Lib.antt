pub mod Decode
pub mod Known
pub mod Rule
