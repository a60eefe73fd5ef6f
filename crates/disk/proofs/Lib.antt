pub mod Writes
pub mod Binds
pub mod Served
