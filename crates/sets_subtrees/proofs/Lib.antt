-- The laws of runs.
pub mod Linked
