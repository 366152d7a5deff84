pub mod Questions
pub mod Inner
pub mod Promises
