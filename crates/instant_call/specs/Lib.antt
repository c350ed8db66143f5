pub mod Reply
pub mod InstantCall
