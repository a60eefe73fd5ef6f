pub mod Commands
pub mod Digest
pub mod Numbers
pub mod Words
