pub mod Checks
pub mod Endings
