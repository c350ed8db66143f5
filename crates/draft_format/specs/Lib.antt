pub mod DraftFile
pub mod Translatable
