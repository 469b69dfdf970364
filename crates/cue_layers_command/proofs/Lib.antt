pub mod Adding
pub mod Found
pub mod Meaning
pub mod Numbers
pub mod Places
pub mod Replies
