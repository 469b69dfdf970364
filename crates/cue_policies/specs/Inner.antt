-- What the prover needs and no reader has to believe: only private clauses and proofs cite it.
pub mod Answers
pub mod Below
pub mod Forms
pub mod Misplaced
pub mod Parts
pub mod Rows
