pub mod Tables
pub mod FilesLeft
pub mod ListLeft
pub mod Resume
pub mod FilePhase
