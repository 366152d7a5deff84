pub mod Make
pub mod Blocks
pub mod Board
pub mod Lamp
pub mod Formulas
pub mod Code
pub mod Promises
