pub mod Ends
pub mod EntryFacts
pub mod Kept
pub mod Lines
pub mod Records
pub mod SourceNumbers
