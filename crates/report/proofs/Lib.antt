pub mod Counted
pub mod Listed
pub mod Into
