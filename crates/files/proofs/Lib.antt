pub mod Counts
pub mod WrittenLemmas
pub mod Buffers
pub mod WholeParts
pub mod Heads
pub mod Refusals
pub mod Writing
pub mod Taking
