pub mod Numbers
pub mod Through
