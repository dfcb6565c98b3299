pub mod ConfigParts
pub mod Faults
pub mod Lease
pub mod Ranges
