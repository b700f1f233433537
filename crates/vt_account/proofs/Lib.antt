pub mod Received
pub mod Accounting
pub mod Playing
pub mod KeyLines
pub mod Limits
pub mod ReadSessions
