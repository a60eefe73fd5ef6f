pub mod Opens
pub mod Inodes
pub mod Lists
pub mod Phases
