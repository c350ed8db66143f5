pub mod Members
pub mod Keys
pub mod AskedSets
pub mod Entering
pub mod Limits
pub mod Stages
