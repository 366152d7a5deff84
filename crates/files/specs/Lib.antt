pub mod Refusals
pub mod Header
pub mod Room
pub mod Inner
