pub mod Answers
pub mod Promises
pub mod Notes
pub mod Demands
pub mod Starred
