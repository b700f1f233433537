pub mod Stages
pub mod Parts
pub mod Phases
