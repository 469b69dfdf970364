-- What the prover needs and no reader has to believe: only private clauses and proofs cite it.
pub mod Accepted
pub mod Events
pub mod Reads
pub mod Statuses
