pub mod Forward
pub mod Fuses
pub mod Piles
