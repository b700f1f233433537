pub mod Carriers
pub mod Left
pub mod Said
pub mod Steps
