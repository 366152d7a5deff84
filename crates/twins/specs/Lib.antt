pub mod Twins
pub mod Promises
