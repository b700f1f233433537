pub mod Between
pub mod Runs
