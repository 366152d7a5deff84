pub mod Coverage
pub mod Service
pub mod Promises
pub mod Inner
