pub mod Exact
pub mod Others
pub mod Holds
pub mod Checks
pub mod CheckExits
pub mod Replies
pub mod Aside
