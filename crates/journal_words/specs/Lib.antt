pub mod History
pub mod Formed
