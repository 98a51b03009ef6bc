pub mod Lines
pub mod Commands
pub mod Played
pub mod Parts
pub mod Settles
