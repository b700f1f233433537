pub mod Sending
pub mod OneRun
pub mod Rows
