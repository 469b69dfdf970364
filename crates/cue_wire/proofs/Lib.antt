pub mod Answered
pub mod Connections
pub mod Cuts
pub mod Exchanges
pub mod Pages
pub mod Readings
pub mod Streams
pub mod Worlds
