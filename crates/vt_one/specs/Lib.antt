pub mod Played
pub mod Ranks
