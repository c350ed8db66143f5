pub mod CheckCall
pub mod ScoreInstant
pub mod ScoreRun
pub mod ScoreJournalCheck
pub mod ScoreTranslate
pub mod ScoreSettings
