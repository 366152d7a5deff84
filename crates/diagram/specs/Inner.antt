pub mod Bytes
pub mod Fit
