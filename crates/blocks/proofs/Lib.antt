pub mod Levels
pub mod WrittenBlocks
