pub mod ByKind
pub mod Conjunctions
pub mod Disjunctions
pub mod Meets
pub mod Moved
pub mod Narrowed
pub mod Unions
pub mod Within
