-- Definitions that mostly serve private contracts.
pub mod Fronts
pub mod Steps
pub mod Words
