-- What the prover needs and no reader has to believe: only private clauses and proofs cite it.
pub mod Findings
pub mod Parts
pub mod Saying
pub mod Stacks
pub mod Trails
