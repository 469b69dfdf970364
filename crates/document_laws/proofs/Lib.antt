pub mod Closings
pub mod Exact
pub mod Tables
