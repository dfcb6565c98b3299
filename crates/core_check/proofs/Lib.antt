pub mod ConformingFacts
pub mod FaultFacts
pub mod LoggedFacts
pub mod OrderFaultFacts
pub mod ProgramFaultFacts
