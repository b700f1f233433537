pub mod Faults
pub mod Left
pub mod Numbers
pub mod Reading
pub mod Sorts
pub mod Views
