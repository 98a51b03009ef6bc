pub mod Each
pub mod Firsts
pub mod Exact
