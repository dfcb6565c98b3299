pub mod ByAddress
pub mod Collecting
pub mod Pairs
pub mod Pieces
pub mod Sorting
pub mod StorePass
pub mod Totals
pub mod Window
