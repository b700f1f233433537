pub mod Drops
pub mod Packed
pub mod Parts
