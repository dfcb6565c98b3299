pub mod Files
pub mod Held
