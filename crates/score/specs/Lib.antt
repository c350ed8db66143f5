pub mod CheckCall
pub mod ScoreInstant
pub mod Slice
pub mod ScoreRun
pub mod ScoreJournalCheck
pub mod ScoreTranslate
pub mod ScoreSettings
