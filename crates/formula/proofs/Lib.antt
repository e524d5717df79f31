-- The laws of the lent formula, in reading order.
-- The scans of the prefix and of the clause table.
pub mod Named
pub mod Scanned
pub mod Literals
-- The lists that a table holds, and the clause with a given number.
pub mod Cuts
pub mod Lookups
-- Clauses that are always true.
pub mod Signs
-- An accepted prefix, and its level table.
pub mod Sound
pub mod Blocked
pub mod Levelling
pub mod InBlocks
pub mod Ordered
-- Where refusals stand.
pub mod Places
-- Nothing is left open; acceptance by computing, and worked examples.
pub mod Tight
pub mod Accepts
pub mod Examples
