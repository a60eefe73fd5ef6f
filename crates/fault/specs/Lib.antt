pub mod Refusals
pub mod Findings
