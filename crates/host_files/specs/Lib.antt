pub mod Files
pub mod Host
pub mod Names
pub mod Sources
