pub mod Cells
pub mod Rings
