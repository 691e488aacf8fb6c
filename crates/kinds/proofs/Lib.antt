pub mod Changes
pub mod Fives
pub mod Shown
pub mod Rules
