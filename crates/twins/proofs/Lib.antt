pub mod Totals
pub mod Pairs
pub mod Promises
pub mod Applied
