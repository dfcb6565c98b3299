pub mod Entries
pub mod Fills
pub mod Giving
pub mod Histories
pub mod Kept
pub mod Leads
pub mod RowTable
pub mod Refused
