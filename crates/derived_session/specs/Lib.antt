pub mod Steps
pub mod Slots
pub mod Walks
pub mod Making
pub mod Begun
