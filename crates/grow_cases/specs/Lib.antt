-- The worked cases: formula A, and the table of what the calls ensure on it.
pub mod FormulaA
pub mod Cases
