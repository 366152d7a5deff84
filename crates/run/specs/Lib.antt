pub mod Stepped
pub mod Inner
