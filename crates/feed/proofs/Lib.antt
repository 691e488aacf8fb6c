pub mod Steps
pub mod Agreements
