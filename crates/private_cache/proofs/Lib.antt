pub mod Entries
pub mod Lines
pub mod Shown
pub mod Least
