-- What the prover needs and no reader has to believe: only private clauses and proofs cite it.
pub mod Covers
pub mod Least
pub mod Merging
pub mod Naming
pub mod Places
pub mod Putting
pub mod Reading
pub mod Stages
pub mod Viewing
pub mod Walks
