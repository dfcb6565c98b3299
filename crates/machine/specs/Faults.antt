-- The texts of the faults: whose it is, a number and a name.
pub use Rattle.audit.specs.Faults.{fault_text}
