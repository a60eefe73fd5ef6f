pub mod Claims
pub mod Notes
pub mod Tallies
