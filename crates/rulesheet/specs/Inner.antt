pub mod Form
pub mod Sheet
