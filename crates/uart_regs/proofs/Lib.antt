pub mod Rows
pub mod StatusLemmas
