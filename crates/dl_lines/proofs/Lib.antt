pub mod Positions
pub mod Texts
pub mod Readers
