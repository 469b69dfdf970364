-- What the prover needs and no reader has to believe: only private clauses and proofs cite it.
pub mod Adding
pub mod Finding
pub mod Gathered
pub mod Known
pub mod Parts
pub mod Ready
pub mod Telling
pub mod TellingLaws
pub mod Told
pub mod Written
