pub mod Medium
pub mod Calls
pub mod Disks
