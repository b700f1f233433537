pub mod Seats
pub mod Account
pub mod Keyed
pub mod InOrder
pub mod Played
pub mod Rows
