pub mod Bare
pub mod Meant
pub mod Named
pub mod Checked
