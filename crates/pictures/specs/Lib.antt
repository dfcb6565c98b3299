pub mod Pictures
pub mod Shows
