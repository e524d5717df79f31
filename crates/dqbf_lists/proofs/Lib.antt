-- The laws of dependency lists, in reading order.
-- Whose list has x, by lists and by places (given_at, given_by).
pub mod Listed
-- The check.
pub mod Placed
pub mod Checked
pub mod Ordering
pub mod Agreement
