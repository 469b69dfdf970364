pub mod Bearers
pub mod Fitting
pub mod Rows
pub mod Named
pub mod Whole
