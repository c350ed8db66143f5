pub mod Standings
pub mod Ports
pub mod Inside
mod Window
