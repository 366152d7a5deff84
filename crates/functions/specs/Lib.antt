pub mod Functions
