pub mod ProcedureSets
pub mod Rows
pub mod Leads
