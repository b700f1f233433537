pub mod Standing
pub mod Pieces
pub mod Counting
pub mod Played
