pub mod InC
pub mod Listing
pub mod Plain
