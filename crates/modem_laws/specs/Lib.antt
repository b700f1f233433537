pub mod OneRun
pub mod Rows
