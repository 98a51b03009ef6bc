pub mod Digest
pub mod Files
pub mod Log
pub mod Reading
pub mod Line
pub mod Write
pub mod Compare
pub mod List
