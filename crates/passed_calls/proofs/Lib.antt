pub mod Names
pub mod Stepped
pub mod Ordered
pub mod Played
pub mod Mixed
pub mod Limits
pub mod Positions
