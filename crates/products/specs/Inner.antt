pub mod Cells
pub mod Terms
