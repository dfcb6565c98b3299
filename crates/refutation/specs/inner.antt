-- Definitions that serve private contracts alone.
pub mod Answers
pub mod Covering
pub mod Lasts
pub mod Lines
pub mod Reading
pub mod Seen
pub mod StateLines
pub mod Telling
pub mod Waiting
