pub mod Lengths
pub mod Packets
