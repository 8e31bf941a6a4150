pub mod Laying
pub mod Answers
