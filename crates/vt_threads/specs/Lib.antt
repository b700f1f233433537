pub mod Closing
pub mod Halves
pub mod Between
pub mod Openings
pub mod Parting
pub mod Counting
