pub mod Any
pub mod Booleans
pub mod Counted
pub mod Lists
pub mod Sets
pub mod Rising
