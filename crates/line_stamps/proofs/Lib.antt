pub mod Ids
pub mod Joined
pub mod Keys
pub mod Order
pub mod Ordered
