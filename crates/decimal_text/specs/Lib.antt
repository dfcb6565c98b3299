pub mod Numbers
pub mod Reading
