pub mod Promises
pub mod Altered
pub mod Held
pub mod Parting
pub mod Answering
pub mod Opened
pub mod Waiting
pub mod Drawn
