pub mod Scan
pub mod Verdict
pub mod Sound
