pub mod FirstLines
pub mod Places
