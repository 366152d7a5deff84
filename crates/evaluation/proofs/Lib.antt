pub mod Looking
pub mod Putting
pub mod Reading
pub mod Walking
