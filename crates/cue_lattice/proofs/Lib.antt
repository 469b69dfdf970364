pub mod Names
pub mod Words
pub mod OneOf
pub mod Meeting
