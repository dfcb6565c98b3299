pub use Rattle.decimal_text.specs.Numbers
pub mod Entries
pub mod Faults
pub mod Laws
pub mod Line
pub mod SourceNumbers
pub mod inner
