-- What the prover needs and no reader has to believe: only private clauses and proofs cite it.
pub mod Admissions
pub mod Rounds
pub mod Routes
