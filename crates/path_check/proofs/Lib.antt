-- The laws of paths, in reading order.
-- The entries of a clause, and where each clause begins.
pub mod Entries
pub mod Beginning
-- One entry of a path, and what is kept from entry to entry.
pub mod Following
-- The level table agrees with the prefix.
pub mod Agreeing
-- Causes told by computing; accepted exactly if acceptable.
pub mod Deciding
pub mod Acceptance
-- Where acceptable paths lead; rule 11.1 and rule 11.3 as theorems.
pub mod Reached
pub mod Demands
-- A worked example.
pub mod Sample
