pub mod Masks
pub mod Stores
pub mod Widths
