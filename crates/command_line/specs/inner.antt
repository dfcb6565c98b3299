-- Definitions that serve private contracts alone.
pub mod Arguments
pub mod Names
pub mod Numbers
