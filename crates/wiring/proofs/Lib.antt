pub mod Tests
pub mod Forms
pub mod Accepted
pub mod Files
pub mod Opened
pub mod Promises
