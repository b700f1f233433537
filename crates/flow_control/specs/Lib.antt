pub mod Counting
pub mod Output
