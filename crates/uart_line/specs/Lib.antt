pub mod Received
pub mod Offered
pub mod LineState
pub mod Handler
pub mod GoodSteps
pub mod Rows
pub mod WholeWindow
