mod Added
mod Bounds
mod CallerNames
mod Fits
mod FirstWords
pub mod Fronts
mod Heads
mod Judged
mod Lists
mod ModeWords
pub mod PhaseCounts
mod Rests
mod Runs
pub mod Spelled
pub mod TextAsks
mod TextSizes
mod VerbWords
pub mod Within
pub mod Writings
