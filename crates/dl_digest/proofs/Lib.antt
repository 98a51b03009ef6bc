pub mod ByFile
pub mod Words
pub mod Taken
pub mod Compares
