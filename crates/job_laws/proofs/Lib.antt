mod Bounds
mod Deciding
mod Due
mod Heads
pub mod OnePort
mod ReadLaws
mod SignalLaws
mod Steps
mod TwoRuns
mod Whole
