pub mod Accesses
pub mod Faults
pub mod Found
pub mod Operations
pub mod Parts
pub mod Told
