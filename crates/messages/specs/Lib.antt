pub mod Wire
pub mod Header
pub mod Symbols
pub mod Content
pub mod Layout
pub mod Verdict
pub mod Messages
