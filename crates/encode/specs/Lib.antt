pub mod Encode
pub mod Writing
pub mod Typed
pub mod Packing
