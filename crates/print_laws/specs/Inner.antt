-- What the prover needs and no reader has to believe: only proofs cite it.
pub mod Joining
pub mod Printable
pub mod Meanings
pub mod ScalarMeaning
