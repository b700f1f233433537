pub mod AfterLine
pub mod Controls
pub mod Desk
pub mod Later
pub mod Left
pub mod Played
pub mod Playing
pub mod Turns
