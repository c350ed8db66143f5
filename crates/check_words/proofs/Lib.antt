pub mod AtWord
