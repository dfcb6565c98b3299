pub mod Fields
pub mod Items
pub mod Lines
pub mod Words
