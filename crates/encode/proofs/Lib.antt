pub mod Numbers
pub mod Laying
pub mod Writes
pub mod Packings
pub mod Packets
