pub mod Table
pub mod Encode
pub mod Promises
pub mod Inner
