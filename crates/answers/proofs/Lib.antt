pub mod Numbers
pub mod OneHold
pub mod Promises
pub mod Notes
pub mod Demands
pub mod Starred
