pub mod Check
pub mod Held
pub mod JournalCheckCall
