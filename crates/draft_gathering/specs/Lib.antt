pub mod Asking
pub mod Gathered
pub mod Gathering
