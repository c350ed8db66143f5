pub mod Took
pub mod Runs
pub mod Counts
pub mod Exact
pub mod Numbers
pub mod Aside
pub mod Turns
