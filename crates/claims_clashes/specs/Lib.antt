pub mod NothingInAClash
pub mod NeverTogether
pub mod OldJournals
