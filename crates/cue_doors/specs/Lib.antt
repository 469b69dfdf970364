pub mod Hosts
pub mod Requests
pub mod Tokens
pub mod Answers
pub mod Counts
pub mod Guards
