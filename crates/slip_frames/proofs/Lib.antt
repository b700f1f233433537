pub mod Spelling
pub mod Pieces
pub mod Feeding
pub mod TextRuns
