pub mod Widest
pub mod WrittenPairs
pub mod WrittenBoard
pub mod WrittenLamp
pub mod Services
pub mod FilesWritten
