pub mod Types
pub mod Page
pub mod Rows
pub mod Written
