pub mod Stores
pub mod Shapes
