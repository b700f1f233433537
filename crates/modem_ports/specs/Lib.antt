pub mod Ports
pub mod Between
