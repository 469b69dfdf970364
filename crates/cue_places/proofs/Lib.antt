pub mod Barring
pub mod Declaring
pub mod Lists
pub mod Roots
pub mod Rows
pub mod Seen
pub mod Values
