pub mod Alone
pub mod Appended
pub mod Ended
pub mod Leading
pub mod Opened
pub mod Placed
pub mod Reached
pub mod Serving
