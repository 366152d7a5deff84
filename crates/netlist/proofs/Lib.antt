pub mod Sound
pub mod Lists
pub mod Written
pub mod Chunks
pub mod Files
pub mod Readers
