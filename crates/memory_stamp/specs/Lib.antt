pub mod Memory
pub mod StoredParts
