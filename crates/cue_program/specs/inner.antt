-- What private clauses alone cite.
pub mod Gathered
pub mod Reading
pub mod Sending
pub mod Taking
pub mod Texts
