pub mod ByteTexts
pub mod CharacterWords
pub mod FlagBits
mod FourBytes
pub mod NameSlots
pub mod PrintedLemmas
pub mod WordTexts
