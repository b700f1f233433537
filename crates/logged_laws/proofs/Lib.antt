pub mod Places
pub mod TwoLogs
pub mod OnePort
pub mod Ahead
pub mod Entries
