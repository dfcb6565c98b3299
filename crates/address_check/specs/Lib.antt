pub mod AddressFaults
pub mod AddressLaw
pub mod BySpan
pub mod FaultOrder
pub mod FaultParts
pub mod Groups
pub mod Ids
pub mod LastStores
