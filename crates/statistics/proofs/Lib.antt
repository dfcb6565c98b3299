pub mod Counting
pub mod Lines
pub mod Plain
pub mod Sums
pub mod Totals
