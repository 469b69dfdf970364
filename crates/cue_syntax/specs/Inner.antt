-- What the prover needs and no reader has to believe: only private clauses and proofs cite it.
pub mod Backwards
pub mod Forms
pub mod Grammar
pub mod Operands
pub mod Viability
pub mod WellFormed
