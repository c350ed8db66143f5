pub mod RunExits
pub mod Replies
