pub mod Values
pub mod Lawful
pub mod Stages
pub mod Passed
