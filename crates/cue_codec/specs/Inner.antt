-- What the prover needs and no reader has to believe: only private clauses and proofs cite it.
pub mod Drafting
pub mod Intakes
pub mod Known
pub mod Pieces
pub mod Reading
pub mod Spans
pub mod Walks
pub mod Ways
