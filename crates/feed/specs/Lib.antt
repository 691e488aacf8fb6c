pub mod Items
pub mod Packets
pub mod Pending
pub mod Layout
pub mod Agreement
