pub mod Marks
pub mod Outcome
pub mod ScratchCount
