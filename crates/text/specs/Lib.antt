pub mod Appending
pub mod Codes
