pub mod Referring
pub mod Copied
