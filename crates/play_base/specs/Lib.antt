pub mod Beginning
pub mod Casting
pub mod Leaving
pub mod Phases
pub mod Played
pub mod Putting
pub mod Roles
pub mod Scenes
