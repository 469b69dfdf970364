-- What the prover needs and no reader has to believe: only private clauses and proofs cite it.
pub mod First
pub mod Integers
pub mod Kinds
pub mod Strings
pub mod Tokens
