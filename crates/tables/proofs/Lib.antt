pub mod Judging
pub mod Brought
pub mod Judged
