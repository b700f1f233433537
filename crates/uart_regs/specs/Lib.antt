pub mod Registers
pub mod Reading
pub mod Row
