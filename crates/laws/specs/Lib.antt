pub mod Sets
pub mod Rising
