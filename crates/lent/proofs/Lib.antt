pub mod Lengths
pub mod Agents
pub mod Faults
pub mod Gathered
pub mod Round
pub mod SameState
pub mod Numbered
