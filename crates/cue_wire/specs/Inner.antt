-- What the prover needs and no reader has to believe: only private clauses and proofs cite it.
pub mod Calls
pub mod Pages
pub mod Parts
pub mod Pieces
