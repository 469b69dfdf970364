-- What the prover needs and no reader has to believe: only private clauses and proofs cite it.
pub mod Clear
pub mod GapSearch
pub mod Search
pub mod Telling
pub mod Trail
pub mod Writing
