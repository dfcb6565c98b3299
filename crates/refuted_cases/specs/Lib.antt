pub mod Names
pub mod inner
