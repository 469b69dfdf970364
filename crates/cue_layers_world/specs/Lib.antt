pub mod Inner
pub mod Laws
pub mod Refusals
pub mod Sites
pub mod World
