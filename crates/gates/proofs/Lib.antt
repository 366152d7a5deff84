pub mod Binding
pub mod Writing
pub mod Rooms
pub mod Trees
pub mod Lines
pub mod Pairs
