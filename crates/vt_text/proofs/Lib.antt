mod Joined
pub mod Operators
mod VerbWords
mod LineLimits
pub mod Limits
pub mod Callers
