pub mod Deciding
pub mod Endings
pub mod Newly
