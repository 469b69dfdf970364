pub mod Inner
pub mod Why
