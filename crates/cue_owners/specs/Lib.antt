pub mod Bearers
pub mod Patterns
pub mod Grants
pub mod Files
pub mod Access
