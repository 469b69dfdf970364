-- What the prover needs and no reader has to believe: only private clauses and proofs cite it.
pub mod Covers
pub mod Forms
pub mod Kept
pub mod PathText
pub mod Quoted
