pub mod Against
