pub mod Answers
pub mod Outcomes
pub mod Paired
