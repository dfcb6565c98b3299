-- Definitions that serve private contracts alone.
pub mod CoreFault
pub mod CoreLog
