pub mod Bits
pub mod Rails
pub mod Trailing
