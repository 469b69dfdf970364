pub mod Conjuncts
pub mod Admits
pub mod Tables
