pub mod WordFaults
