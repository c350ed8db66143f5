pub mod Translatable
pub mod Leading
pub mod Referring
pub mod Copies
pub mod Reading
