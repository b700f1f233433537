pub mod Blocks
pub mod Derived
pub mod Journals
pub mod Logs
pub mod Scripts
pub mod Within
