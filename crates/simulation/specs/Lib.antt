pub mod Run
pub mod Late
pub mod Service
pub mod Inner
