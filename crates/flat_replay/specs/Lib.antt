pub mod Accesses
pub mod Memory
pub mod Orders
pub mod inner
