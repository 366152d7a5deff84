pub mod Betrayal
pub mod Promises
pub mod Spare
