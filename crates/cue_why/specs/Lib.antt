pub mod Finding
pub mod Inner
pub mod Least
pub mod Reported
pub mod Shown
pub mod Sources
