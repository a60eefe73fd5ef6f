pub mod Splits
pub mod Inodes
