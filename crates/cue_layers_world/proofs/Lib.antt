pub mod Alike
pub mod Events
pub mod Messages
pub mod Nexts
pub mod Once
pub mod Runs
