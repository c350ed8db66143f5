pub mod Closing
pub mod Settling
pub mod ScratchCount
pub mod Outcomes
