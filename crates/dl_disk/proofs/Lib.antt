pub mod Maps
pub mod Acts
pub mod FaultCounts
pub mod Kept
mod Owed
mod Losses
