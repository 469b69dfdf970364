pub mod Begun
mod CoveredRows
pub mod Free
pub mod MetRows
pub mod Texts
pub mod MetSets
pub mod MetValid
mod SmallRows
mod Plain
