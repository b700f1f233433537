pub mod Entries
pub mod Kept
pub mod Limits
pub mod Naming
pub mod Parts
pub mod Plain
pub mod Sessions
