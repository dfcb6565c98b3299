pub mod Fields
pub mod Items
pub mod SpacedWords
pub mod TextLines
pub mod Wrong
