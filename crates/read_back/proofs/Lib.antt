mod Characters
mod Lists
mod Outcomes
mod Packets
mod Places
mod Received
pub mod Runs
mod Scripts
mod Sessions
mod Steps
