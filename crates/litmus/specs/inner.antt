-- Definitions that serve private contracts alone.
pub mod Ending
pub mod JudgedOutcome
pub mod Reading
pub mod Tallies
pub mod Whole
