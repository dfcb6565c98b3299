pub mod Feeding
pub mod Memories
pub mod OneAnswer
pub mod Readings
pub mod Sequential
pub mod States
pub mod Stores
