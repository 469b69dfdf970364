-- What the prover needs and no reader has to believe: only private clauses and proofs cite it.
pub mod Apart
pub mod Combination
pub mod Gaps
pub mod Merge
pub mod Sorted
pub mod Sweep
pub mod Walk
