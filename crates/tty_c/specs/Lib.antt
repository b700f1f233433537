pub mod Answers
pub mod Calls
pub mod Owning
pub mod Uarts
