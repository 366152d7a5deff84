pub mod Columns
pub mod Rows
pub mod Pages
pub mod Outcomes
pub mod Readback
pub mod Promises
