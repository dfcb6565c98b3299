pub mod Columns
pub mod Laws
pub mod Numbers
pub mod Sights
pub mod TableText
