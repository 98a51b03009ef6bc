pub mod Fronts
pub mod Chains
pub mod Arranging
pub mod Syncing
pub mod Streams
pub mod Flushes
pub mod Outs
