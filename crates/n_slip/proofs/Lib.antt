pub mod Packets
pub mod Happenings
pub mod TextRuns
pub mod FrontLemmas
pub mod CountLemmas
