-- What is true of formulas as lent.
-- The game of a formula, and that it computes.
pub mod Entries
pub mod Turns
pub mod Computed
-- Narrowing by the prefix, and with dependency lists.
pub mod Narrowed
pub mod Lists
pub mod Unlisted
-- The theorems.
pub mod Claims
