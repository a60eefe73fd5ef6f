pub mod Calls
pub mod Make
pub mod Files
pub mod Runs
pub mod Promises
