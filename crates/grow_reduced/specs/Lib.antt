-- Reduced clauses, which a reader has to believe.
pub mod Reduced
