pub mod Widths
pub mod Answer
pub mod Replies
pub mod Refusals
