pub mod Findings
pub mod CodeRails
