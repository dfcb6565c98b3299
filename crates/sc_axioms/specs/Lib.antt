pub mod Axioms
pub mod Chosen
pub mod Laws
