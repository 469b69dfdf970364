-- What private clauses alone cite.
pub mod Apps
pub mod Lines
pub mod Replies
pub mod Rows
