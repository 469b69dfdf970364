pub mod Reading
pub mod Nodes
pub mod Placing
pub mod Flooding
pub mod Numbers
pub mod Scoping
pub mod Walking
pub mod TextWalks
pub mod Followed
pub mod Measuring
pub mod Meanings
pub mod Ordered
pub mod Inside
pub mod Faults
pub mod Resolving
pub mod Kept
pub mod Counting
mod WordNumbers
