pub mod Waits
pub mod Standing
pub mod Feeds
pub mod Sending
