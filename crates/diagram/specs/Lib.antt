pub mod Diagram
pub mod Questions
pub mod Inner
