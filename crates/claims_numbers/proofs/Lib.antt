pub mod Words
pub mod NumberCounts
pub mod NumberAside
pub mod AbortedStays
