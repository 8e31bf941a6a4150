pub mod Characters
pub mod Pairs
pub mod States
pub mod Whole
pub mod Ends
pub mod Rows
