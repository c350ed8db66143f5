pub mod Tokens
pub mod MapWriting
pub mod Round
