pub mod Flat
pub mod Memories
pub mod Orders
pub mod Replaying
pub mod Turns
