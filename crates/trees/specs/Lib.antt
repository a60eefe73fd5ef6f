pub mod Trees
pub mod Walk
pub mod Volume
pub mod Laws
