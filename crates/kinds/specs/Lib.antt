pub mod Meaning
pub mod Levels
pub mod Books
pub mod Depth
pub mod Top
pub mod Imbalance
pub mod Rules
