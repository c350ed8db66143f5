pub mod WithoutFacts
pub mod FactsHold
pub mod FactForTold
