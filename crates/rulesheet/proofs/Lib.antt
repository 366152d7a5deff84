pub mod Forms
pub mod Formed
