pub mod Changes
pub mod Inner
pub mod Pairs
pub mod ScalarLaws
pub mod Scalars
pub mod Values
