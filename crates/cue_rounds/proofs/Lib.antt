pub mod Counting
pub mod Steps
pub mod Places
pub mod Working
pub mod Sending
