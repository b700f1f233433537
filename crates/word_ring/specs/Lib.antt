pub mod Ends
pub mod Lanes
pub mod Names
pub mod Plays
pub mod PutterParts
pub mod Rule
pub mod TakerParts
