pub mod Hands
pub mod Laws
pub mod Settled
pub mod Stamps
pub mod Swaps
pub mod Versions
pub mod Views
pub mod Refusals
