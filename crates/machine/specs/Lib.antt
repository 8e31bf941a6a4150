pub mod Machine
pub mod OrderRows
pub mod Operations
pub mod Transfers
pub mod Actions
pub mod Events
pub mod Demand
