pub mod Images
pub mod Pairs
