pub mod Reply
pub mod SettingsCall
