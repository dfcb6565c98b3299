-- Definitions that serve private contracts alone.
pub mod EntryKeeping
pub mod Listing
pub mod NextLine
pub mod TakesPiece
