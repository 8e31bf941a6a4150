pub mod Segments
pub mod Sums
pub mod Locating
pub mod Searching
pub mod Pieces
pub mod Refusing
pub mod Rows
