pub mod PassBound
pub mod Passes
pub mod RuleBound
pub mod WorstOrder
