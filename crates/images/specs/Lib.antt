pub mod Images
pub mod Orders
