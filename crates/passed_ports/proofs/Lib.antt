pub mod Alike
pub mod Played
pub mod Noting
pub mod Started
pub mod Leaving
pub mod Joining
