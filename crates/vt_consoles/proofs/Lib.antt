pub mod RunLemmas
pub mod SeatLemmas
pub mod Seating
