pub mod Changes
pub mod Leaving
pub mod Promises
pub mod Opening
