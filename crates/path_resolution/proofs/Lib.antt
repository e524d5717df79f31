-- The laws of resolution paths, in reading order.
-- The walk: marks, places in clauses, and the two steps.
pub mod Marks
pub mod Places
pub mod Steps
-- Clauses by their places; marks and the paths that they stand for.
pub mod Crossings
pub mod Reaching
-- Flags and the list of them; what the call promises, under either rule.
pub mod Listing
pub mod Outcomes
-- The set lies within the strict one; a worked example.
pub mod Within
pub mod Sample
