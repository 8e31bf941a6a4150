pub mod Counts
pub mod Lines
pub mod Columns
pub mod Beginnings
pub mod Rows
pub mod Written
