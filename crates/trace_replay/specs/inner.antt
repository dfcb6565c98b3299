-- Definitions that serve private contracts alone.
pub mod Feeding
pub mod Wrong
