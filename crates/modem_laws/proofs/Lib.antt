mod Bounds
mod Deciding
mod Heads
pub mod OnePort
mod Steps
mod Turns
mod TwoRuns
mod Whole
