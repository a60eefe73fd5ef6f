pub mod Pages
pub mod Gives
pub mod Takings
pub mod Stands
pub mod Coded
pub mod Locks
pub mod Ways
pub mod Loops
