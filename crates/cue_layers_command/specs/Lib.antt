pub mod Apps
pub mod Faults
pub mod Places
pub mod Runs
pub mod Words
pub mod inner
