pub mod Acts
pub mod Following
pub mod LineInside
pub mod Lines
pub mod Stages
pub mod Turns
