pub mod Marks
pub mod Placing
pub mod Entering
pub mod Supplying
