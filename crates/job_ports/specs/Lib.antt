pub mod Ports
pub mod Callers
pub mod Between
pub mod Walked
