pub mod Between
pub mod Lanes
