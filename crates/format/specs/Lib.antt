pub mod Limits
pub mod Format
pub mod Decode
pub mod Playable
