pub mod Calls
pub mod Determinacy
pub mod Operational
pub mod JournalExact
pub mod AnyScratch
pub mod CountOfOrders
pub mod Corollaries
