pub mod AllIds
pub mod Extension
pub mod FromAxioms
pub mod Leading
pub mod ToAxioms
