pub mod Fields
pub mod Bounded
pub mod Refusals
pub mod Promises
pub mod Inner
