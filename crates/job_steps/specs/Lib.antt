pub mod Derived
pub mod Steps
pub mod Order
pub mod Rows
