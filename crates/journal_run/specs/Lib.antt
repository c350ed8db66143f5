pub mod RunCall
