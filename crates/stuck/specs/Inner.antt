pub mod Findings
pub mod Probing
