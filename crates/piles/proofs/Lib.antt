pub mod Fuses
pub mod Homes
