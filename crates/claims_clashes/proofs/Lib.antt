pub mod Commands
pub mod NothingInAClash
pub mod NeverTogether
pub mod OldJournals
