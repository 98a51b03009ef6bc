pub mod Script
pub mod Halt
pub mod Wrap
pub mod Texts
