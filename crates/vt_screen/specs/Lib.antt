pub mod Paper
pub mod Scrolling
pub mod Rows
