pub mod Hands
pub mod Keeping
pub mod Picks
pub mod RoundFaults
pub mod Rounds
pub mod RunFaults
pub mod inner
