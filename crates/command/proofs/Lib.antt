pub mod Tables
pub mod Judged
