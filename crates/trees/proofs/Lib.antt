pub mod Sums
pub mod Names
pub mod Walks
pub mod Files
pub mod Checks
pub mod Frames
