pub mod Faults
pub mod Networks
pub mod Runs
pub mod Words
pub mod inner
