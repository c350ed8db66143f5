pub mod Instants
pub mod Parts
