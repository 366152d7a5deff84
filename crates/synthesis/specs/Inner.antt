pub mod Boards
pub mod Writers
