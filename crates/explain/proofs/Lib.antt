pub mod CoreFaulted
pub mod CoreLogs
pub mod Drawing
pub mod Examining
pub mod Finding
pub mod RightStores
