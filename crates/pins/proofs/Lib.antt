pub mod Runs
pub mod LowPins
pub mod Raising
pub mod HighPins
