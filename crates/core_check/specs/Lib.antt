pub mod CoreFaults
pub mod CoreOrder
pub mod FaultOrder
pub mod FaultParts
pub mod Laws
