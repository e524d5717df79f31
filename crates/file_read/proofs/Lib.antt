-- The laws of reading the file of a forest.
pub mod Judging
