pub mod Run
pub mod Advance
