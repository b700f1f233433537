pub mod Acts
pub mod Askers
pub mod Devices
pub mod Inside
pub mod Kept
pub mod Lines
