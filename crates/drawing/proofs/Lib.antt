pub mod Leads
pub mod Forms
pub mod Applied
