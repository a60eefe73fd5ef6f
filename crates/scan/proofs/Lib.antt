pub mod Turns
pub mod Members
pub mod Alike
pub mod Shown
