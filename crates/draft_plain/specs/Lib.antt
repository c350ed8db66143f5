pub mod Stands
pub mod Places
pub mod Plain
pub mod Led
pub mod Exact
pub mod Limits
pub mod Unchanged
pub mod Reply
