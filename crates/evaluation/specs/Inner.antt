pub mod Ready
pub mod Walk
