pub mod Inner
pub mod Kinds
pub mod Spelled
pub mod PrintedTree
pub mod Reading
pub mod Accepted
pub mod Taken
pub mod Meant
