pub mod Decimals
pub mod Tokens
pub mod Words
