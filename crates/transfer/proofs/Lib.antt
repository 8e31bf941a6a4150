pub mod Checks
pub mod Pieces
pub mod Handing
pub mod Turns
