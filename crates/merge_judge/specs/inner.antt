-- Definitions that serve private contracts alone.
pub mod Following
pub mod Given
pub mod Judging
pub mod Lanes
pub mod Merging
pub mod FinalVerdict
pub mod Memory
pub mod Writing
