pub mod Changes
pub mod Inner
pub mod Kept
pub mod PieceLaws
pub mod Pieces
pub mod TextLaws
pub mod Texts
