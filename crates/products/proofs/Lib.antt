pub mod Terms
pub mod Listing
pub mod Entries
pub mod Rows
