pub mod Headers
pub mod Checks
pub mod Openings
pub mod Series
pub mod Books
pub mod Theorem
pub mod Accepts
