pub mod Events
pub mod Faults
pub mod Lists
pub mod Merges
pub mod Pairs
pub mod Runs
pub mod inner
