pub mod Files
pub mod Entries
pub mod Layout
