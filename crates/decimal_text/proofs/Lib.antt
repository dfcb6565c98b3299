pub mod Lines
pub mod Meaning
pub mod Numbers
pub mod Printing
pub mod Reading
