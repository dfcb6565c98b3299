mod Disturbed
mod Drawn
mod Draws
mod Left
mod Progress
pub mod SimulatedRuns
pub mod Ended
mod EventTable
pub mod CommandTexts
pub mod ScheduleTexts
