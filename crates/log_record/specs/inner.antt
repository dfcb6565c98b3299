-- Definitions that serve private contracts alone.
pub mod Kept
pub mod PackedActs
pub mod Reading
