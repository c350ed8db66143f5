pub mod Pass
pub mod PassBound
pub mod Passes
pub mod Repeats
pub mod RuleBound
pub mod Settles
pub mod WorstOrder
