pub mod Volumes
pub mod Made
pub mod Served
pub mod Runs
