-- The laws of truth, and last its theorems.
-- Literals and their values, what can be told of lists, and assignments.
pub mod Literals
pub mod Decisions
pub mod Values
-- Paths are decided, and the argument for narrowing one universal.
pub mod Deciding
pub mod Mixing
pub mod Narrowing
-- The game and strategies; turns and games computed.
pub mod Playing
pub mod Ordering
pub mod Computing
-- Two worked examples, and the theorems.
pub mod Equal
pub mod Claims
