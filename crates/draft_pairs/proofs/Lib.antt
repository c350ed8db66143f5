pub mod Rows
pub mod TokenSets
pub mod Rising
