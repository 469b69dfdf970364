-- What private clauses alone cite.
pub mod Lines
pub mod Replies
