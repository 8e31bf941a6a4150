pub mod Dividing
pub mod Formula
pub mod Rows
