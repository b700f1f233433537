pub mod OfferedLemmas
pub mod Windows
pub mod Serving
pub mod Steps
pub mod GoodWindows
pub mod Arrivals
