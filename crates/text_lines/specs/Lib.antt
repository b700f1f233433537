pub mod Lines
pub mod Parted
pub mod Sizes
pub mod Values
