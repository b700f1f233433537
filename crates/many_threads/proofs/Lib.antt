pub mod PartLemmas
pub mod CrewLemmas
pub mod ClosingLemmas
pub mod AccountLemmas
pub mod LineAccount
pub mod PortAccount
pub mod LineEnds
pub mod Seated
pub mod Onward
pub mod IdleLemmas
pub mod PhaseAccount
pub mod PhaseStart
pub mod PhaseEnds
pub mod Gathering
mod SendLemmas
