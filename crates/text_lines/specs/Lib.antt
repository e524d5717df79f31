-- QDIMACS text: first the format, then what the functions on one line promise, which only proofs rest on.
pub mod Format
pub mod InnerGrammar
pub mod InnerSteps
