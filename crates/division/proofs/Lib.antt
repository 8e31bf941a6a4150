pub mod Counting
pub mod Counts
pub mod Formula
pub mod Rows
