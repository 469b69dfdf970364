pub mod Answers
pub mod Changes
pub mod Inner
pub mod Joined
pub mod MapFiles
pub mod Merges
pub mod Stops
pub mod Tries
