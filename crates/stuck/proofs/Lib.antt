pub mod OneHold
pub mod Probes
pub mod Boards
pub mod Fanouts
pub mod Outcomes
pub mod Made
