pub mod Consistency
pub mod Faults
pub mod Limits
pub mod Names
pub mod Parts
pub mod Texts
