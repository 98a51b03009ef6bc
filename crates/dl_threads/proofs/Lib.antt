pub mod Slices
pub mod Commands
pub mod Played
pub mod Promised
pub mod Told
