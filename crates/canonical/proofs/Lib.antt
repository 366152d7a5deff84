pub mod Agreement
pub mod Searching
pub mod Halves
pub mod Numbering
pub mod Prefixes
pub mod Laying
pub mod Outcomes
pub mod Tabulated
