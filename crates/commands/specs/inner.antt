-- Definitions that serve private contracts alone.
pub mod CoreLogs
pub mod Explaining
pub mod Performing
pub mod Printing
pub mod ReadLogs
pub mod Texts
