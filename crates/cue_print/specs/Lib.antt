pub mod Inner
pub mod Expressions
pub mod Spelled
pub mod Difference
pub mod Terms
pub mod Printed
