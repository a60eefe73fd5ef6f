pub mod Stack
pub mod Bytes
pub mod Chain
pub mod Laws
pub mod Answers
