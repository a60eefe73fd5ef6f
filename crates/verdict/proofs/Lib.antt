pub mod Rows
pub mod Seen
pub mod Inodes
pub mod Chains
pub mod Bits
pub mod Surveys
pub mod Sounds
