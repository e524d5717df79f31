-- The laws and theorems of connection, in reading order.
-- The laws of reach.
pub mod Reach
-- The climb: entry points, and theorem (f) on the number of rises.
pub mod Climb
-- Tests taken apart, for what computes.
pub mod Choice
-- Theorem (a): reach in a table's joins is equality of tops.
pub mod Represent
pub mod Joins
-- The forest is one, and is what a table that represents the joins says.
pub mod Forest
pub mod Rows
-- Theorem (b): putting a clause in by fusing.
pub mod Fuse
-- Reach decided by computing.
pub mod Search
-- Theorem (c): the forest of a list, computed one clause at a time; demand 3, first sentence.
pub mod Fusing
pub mod Growth
-- Theorem (d): demand 2.
pub mod Sets
-- Theorem (e): demand 3, second sentence.
pub mod Alone
-- Theorems (d) and (e) for strict sets.
pub mod Strict
-- Ascending lists, and counting.
pub mod Numbered
-- Counts of a table, and the size of a set.
pub mod Counts
pub mod Passing
-- Counts computed.
pub mod Counting
-- How many classes a clause leaves.
pub mod Fewer
-- Formula A computed, and the wrong readings refuted.
pub mod FormulaA
pub mod CountsA
