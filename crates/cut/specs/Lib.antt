pub mod Walk
pub mod Locating
pub mod Rows
