pub mod Answers
pub mod CacheParts
pub mod Faults
pub mod Steps
pub mod Table
