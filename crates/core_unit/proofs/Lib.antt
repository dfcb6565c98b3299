pub mod Found
pub mod Fronts
pub mod Gone
pub mod Keeping
pub mod Looks
pub mod Pushing
pub mod Recalling
pub mod Turns
