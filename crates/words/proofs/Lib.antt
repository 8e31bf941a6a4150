pub mod Slots
pub mod Words
pub mod Ports
